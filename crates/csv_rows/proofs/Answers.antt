-- The answers by the table's check and by its fields, and that there is one of each.
-- Assumes nothing.
use mathlib.Core.Path.{◌≡◌, refl, sym, ap, ◌∙◌}
use mathlib.Core.Path as paths
use mathlib.Core.List.{List}
use mathlib.Core.Bool.{true}
use mathlib.Core.Option.{none}
use Prim.Native.Nat.{ℕ, ◌≤◌}
use lib.ListN.{length}
use Rattle.wire.specs.declared.Refusal.{Refusal}
use Rattle.wire.specs.declared.Layout.{Layout}
use Rattle.wire.specs.Checked.{Good, Bad}
use Rattle.wire.specs.Shape.{struct, node}
use Rattle.wire.specs.Table.{check, shape_of}
use Rattle.desk.specs.CsvAnswer.{CsvAnswer}
use Rattle.desk.specs.CsvAnswer.{Refused, Unfit as NotFit}
use Rattle.desk.specs.Csv.{most_fields, columns, columns_of, export_of, export_by, csv_export}
use Rattle.spellings.specs.Accept.{import_of, import_by, csv_import}
use Rattle.spellings.proofs.Trips.{imports-exactly}
use Rattle.columns.specs.Found.{Found}
use Rattle.columns.specs.Found.{Fields, Unfit}
use Rattle.columns.specs.Columns.{field_shapes, Rowed, Finds, rows, no_rows}
use Rattle.put_row.specs.Rows.{fields_from}
use Rattle.export_row.specs.Outputs.{Gives, told_output}
use Rattle.export_row.proofs.Once.{gives-no}
use Rattle.export_row.proofs.Exports.{rows-export}
use Rattle.take_row.specs.Messages.{taken_by}
use Rattle.import_row.specs.Outputs.{taken_output}
use Rattle.import_row.proofs.Imports.{rows-import}
use Rattle.csv_rows.specs.Promise.{GivesImport, OneExport, OneImport}

-- ---- which tables have rows

module _ {s : List ℕ} {l : Layout} {r : Found} (f : Finds s l r) where
  pub no_fields_lem : r ≡ Unfit → columns_of (shape_of s l) ≡ none
  no_fields_lem e = go (rw e at f)
    where
      go : Finds s l Unfit → columns_of (shape_of s l) ≡ none
      go (no_rows h) = h

  pub record HasRows (from width : ℕ) : Type 0 where
    pub rowed : Rowed s l from width
    pub few : width ≤ most_fields
    pub root : shape_of s l ≡ node struct (field_shapes s l from width)

  pub some-fields : {from width : ℕ} → r ≡ Fields from width → HasRows from width
  some-fields {from} {width} e = go (rw e at f)
    where
      go : Finds s l (Fields from width) → HasRows from width
      go (rows h k t) = record { rowed = h; few = k; root = t }

-- ---- export

module _ (table message out : List ℕ) where
  pub export-bad : {e : Refusal} {p : ℕ} → check table ≡ Bad e p → Gives (csv_export table message (length out)) out (Refused e p) out
  unfolding csv_export export_by
  export-bad h = gives-no out (rw h)

  pub export-unfit : {l : Layout} → check table ≡ Good l → columns_of (shape_of table l) ≡ none → Gives (csv_export table message (length out)) out NotFit out
  unfolding csv_export export_by export_of
  export-unfit h c = gives-no out (rw (h, c))

  pub export_row : {l : Layout} {r : Found} {from width : ℕ} {a : CsvAnswer} {left : List ℕ} → check table ≡ Good l → (f : Finds table l r) → r ≡ Fields from width
      → Gives (told_output (length out) (fields_from message true (field_shapes table l from width) 0)) out a left → Gives (csv_export table message (length out)) out a left
  unfolding csv_export export_by
  export_row {l} {a = a} {left = left} h f e g =
      let k = some-fields f e in
      rw (h, rows-export message (length out) k.rowed k.few k.root) g

pub one-export : OneExport
one-export table message out x y f g =
    ap (λ (a : CsvAnswer). (a, x.1)) (f.answered ∙ sym g.answered) ∙ ap (λ (s : List ℕ). (y.0, s)) (f.stored ∙ sym g.stored)

-- ---- import

module _ (table row out : List ℕ) where
  said : {a : CsvAnswer} {left : List ℕ} → Gives (csv_import table row (length out)) out a left → GivesImport table row out a left
  said g = record { output = csv_import table row (length out); imports = (imports-exactly table row (length out) _).1 refl; gives = g }

  pub import-bad : {e : Refusal} {p : ℕ} → check table ≡ Bad e p → GivesImport table row out (Refused e p) out
  unfolding csv_import import_by
  import-bad h = said (gives-no out (rw h))

  pub import-unfit : {l : Layout} → check table ≡ Good l → columns_of (shape_of table l) ≡ none → GivesImport table row out NotFit out
  unfolding csv_import import_by import_of
  import-unfit h c = said (gives-no out (rw (h, c)))

  pub import-row : {l : Layout} {r : Found} {from width : ℕ} {a : CsvAnswer} {left : List ℕ} → check table ≡ Good l → (f : Finds table l r) → r ≡ Fields from width
      → Gives (taken_output (length out) (taken_by (columns (field_shapes table l from width)) row)) out a left → GivesImport table row out a left
  unfolding csv_import import_by
  import-row {l} h f e g =
      let k = some-fields f e in
      said (rw (h, rows-import row (length out) k.rowed k.few k.root) g)

pub one-import : OneImport
one-import table row out x y f g =
    let same : f.output ≡ g.output = sym ((imports-exactly table row (length out) f.output).0 f.imports) ∙ (imports-exactly table row (length out) g.output).0 g.imports in
    let h : Gives g.output out x.0 x.1 = paths.subst (λ o. Gives o out x.0 x.1) same f.gives in
    ap (λ (a : CsvAnswer). (a, x.1)) (h.answered ∙ sym g.gives.answered) ∙ ap (λ (s : List ℕ). (y.0, s)) (h.stored ∙ sym g.gives.stored)
