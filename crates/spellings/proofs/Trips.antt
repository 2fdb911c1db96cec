-- There and back, as the public calls answer.
-- Assumes nothing.
use Rattle.std.specs.Prelude.{Err}
use mathlib.Core.Path.{◌≡◌, refl, sym, ap, ◌∙◌}
use mathlib.Core.Path as paths
use mathlib.Core.Bool.{Bool, true, false}
use mathlib.Core.List.{List, [], ◌∷◌, ◌++◌}
use mathlib.Core.Option.{Option, none, some}
use Prim.Native.Nat.{ℕ, ◌+◌, ◌<◌, ◌^◌}
use native.Mathlib.Omega.{arith}
use lib.Dec.{leb}
use lib.ListN.{length}
use Rattle.wire.specs.declared.Layout.{Layout}
use Rattle.wire.specs.Checked.{Checked}
use Rattle.wire.specs.Checked.{Good, Bad}
use Rattle.wire.specs.Tests.{pick}
use Rattle.wire.specs.Shape.{Shape}
use Rattle.wire.specs.Table.{check, shape_of}
use Rattle.laws.specs.Range.{AreBytes}
use Rattle.wire.specs.Values.{Entry, SameValues, Value, number, whole, values}
use Rattle.wire.specs.Reading.{Spot, front, Outcome, reached, refused, Run, read, fit}
use Rattle.laws.proofs.Splits.{by-test, not-both}
use Rattle.laws.proofs.Runs.{within-reached, fit-reached}
use Rattle.desk.specs.CsvAnswer.{NoRow}
use Rattle.desk.specs.Csv.{may_all, row, Column, columns_of, styles_of, Output, bytes, refusal, within, field_values, export_run, export_read, export_of, export_by, csv_export, message_of, Imported, row_of, stops_at, Imports, bad_table, unfit, fits}
use Rattle.desk.specs.Path.{most_entries}
use Rattle.spellings.specs.Accept.{Parsed, took, stopped, parse, import_parsed, import_of, import_by, csv_import}
use Rattle.spellings.specs.Promises.{ExportOfImport, SameAgain, ImportOfExport, ImportsExactly}
use Rattle.spellings.proofs.Promises.{rows-there-and-back}
use Rattle.spellings.proofs.Messages.{AllShort, Read, message-reads}
use Rattle.spellings.proofs.Exported.{Valid, valid, stopped as is_stopped, message-valid}
use Rattle.spellings.proofs.Lengths.{short_row}

-- ---- outputs

abbrev is_bytes : Output → Bool
is_bytes (bytes s) = true
is_bytes (refusal a) = false

abbrev bytes_of : Output → List ℕ
bytes_of (bytes s) = s
bytes_of (refusal a) = []

within-bytes : (room : ℕ) (s t : List ℕ) → within room s ≡ bytes t → s ≡ t
unfolding within pick
within-bytes room s t e = by-test (leb (length s) room) (λ h. ap bytes_of (rw h at e)) (λ h. not-both (sym (ap is_bytes (sym (rw h at e)))) refl)

-- ---- a message is exported as the row of its values

pub exported : (t : Shape) (cs : List Column) (vs : List Value) (s rest : List ℕ) (room : ℕ) → Read t vs s rest
    → export_of (some cs) t (s ++ rest) room ≡ within room (row (styles_of cs) vs)
unfolding export_of export_read export_run field_values fit
exported t cs vs s rest room r = rw (r.reads, within-reached most_entries r.made _ (omega (arith, r.few)), r.are)

-- what was imported: values of the row, whose message it is
record Taken (t : Shape) (input message : List ℕ) : Type 0 where
  cs : List Column
  have : columns_of t ≡ some cs
  vs : List Value
  parsed : parse (styles_of cs) input ≡ took vs
  is : message_of cs vs ≡ message

imported : (t : Shape) (o : Option (List Column)) (input message : List ℕ) (room : ℕ) → columns_of t ≡ o → import_of o input room ≡ bytes message → Taken t input message
unfolding import_of import_parsed
imported t none input message room c e = not-both (ap is_bytes e) refl
imported t (some cs) input message room c e = go (parse (styles_of cs) input) refl e
  where
    go : (p : Parsed) → parse (styles_of cs) input ≡ p → import_parsed cs room p ≡ bytes message → Taken t input message
    go (took vs) h e = record { cs = cs; have = c; vs = vs; parsed = h; is = within-bytes room _ message e }
    go (stopped n) h e = not-both (ap is_bytes e) refl

export-back : (t : Shape) (input message rest : List ℕ) (room : ℕ) → length input < 2 ^ 64 → Taken t input message
    → export_of (columns_of t) t (message ++ rest) room ≡ within room input
export-back t input message rest room few i =
    let p = ((rows-there-and-back t i.cs i.have).reads input i.vs).0 i.parsed in
    let r = message-reads t i.cs i.vs rest i.have p.0 (short_row (styles_of i.cs) i.vs p.0 (rw p.1 few)) in
    rw (i.have, ← i.is) (exported t i.cs i.vs (message_of i.cs i.vs) rest room r ∙ ap (within room) p.1)

pub export-of-import : ExportOfImport
unfolding csv_import csv_export import_by export_by
export-of-import table input message rest room room' few e = go (check table) e
  where
    go : (c : Checked) → import_by c table input room ≡ bytes message → export_by c table (message ++ rest) room' ≡ within room' input
    go (Good l) e = export-back (shape_of table l) input message rest room' few (imported (shape_of table l) (columns_of (shape_of table l)) input message room refl e)
    go (Err r) e = not-both (ap is_bytes e) refl

-- ---- import of an export

-- what was exported: the row of values that the columns may have, read to the end of the message
pub record Exported (t : Shape) (message row' : List ℕ) : Type 0 where
  pub cs : List Column
  pub have : columns_of t ≡ some cs
  pub vs : List Value
  pub are : values t message (read t (front message)).made ≡ whole (number 0 0 ∷ vs)
  pub may : may_all (styles_of cs) vs ≡ true
  pub shorts : AllShort vs
  pub is : row (styles_of cs) vs ≡ row'

abbrev is_reached : Outcome → Bool
is_reached (reached x) = true
is_reached (refused e p) = false

pub was-exported : (t : Shape) (o : Option (List Column)) (message row' : List ℕ) (room : ℕ) → AreBytes message → columns_of t ≡ o → export_of o t message room ≡ bytes row'
    → Exported t message row'
unfolding export_of export_read export_run field_values
was-exported t none message row' room ok c e = not-both (ap is_bytes e) refl
was-exported t (some cs) message row' room ok c e = ended (fit most_entries (read t (front message))).made (fit most_entries (read t (front message))).ends refl e
  where
    valid-run : (r : Run) (made : List Entry) (y : Spot) → Valid message ok t cs r → r ≡ record { made = made; ends = reached y } → (vs : List Value) × (values t message made ≡ whole (number 0 0 ∷ vs)) × (may_all (styles_of cs) vs ≡ true) × AllShort vs
    valid-run r made y (valid vs are may shorts) e = (vs, rw (ap (λ r. r.made) e) at are, may, shorts)
    valid-run r made y is_stopped e = not-both (sym (ap (λ r. is_reached r.ends) (sym e))) refl

    ended : (made : List Entry) (o : Outcome) → fit most_entries (read t (front message)) ≡ record { made = made; ends = o }
        → export_run cs room (field_values (values t message made)) o ≡ bytes row' → Exported t message row'
    ended made (refused r q) f e = not-both (ap is_bytes e) refl
    ended made (reached y) f e =
        let all : read t (front message) ≡ record { made = made; ends = reached y } = (fit-reached most_entries (read t (front message)) made y f).1 in
        let v = valid-run (read t (front message)) made y (message-valid message ok t cs c) all in
        let same : (read t (front message)).made ≡ made = ap (λ r. r.made) all in
        record { cs = cs; have = c; vs = v.0; are = ap (λ es. values t message es) same ∙ v.1; may = v.2; shorts = v.3; is = within-bytes room (row (styles_of cs) v.0) row' (rw v.1 at e) }

same-again : (t : Shape) (message row' rest : List ℕ) (x : Exported t message row')
    → SameValues t message (read t (front message)).made (message_of x.cs x.vs ++ rest) (read t (front (message_of x.cs x.vs ++ rest))).made
same-again t message row' rest x =
    let r = message-reads t x.cs x.vs rest x.have x.may x.shorts in
    record { them = number 0 0 ∷ x.vs; those = x.are; these = rw r.reads r.are }

import-back : (t : Shape) (message row' : List ℕ) (room : ℕ) (x : Exported t message row') → import_of (columns_of t) row' room ≡ within room (message_of x.cs x.vs)
unfolding import_of import_parsed
import-back t message row' room x =
    let p : parse (styles_of x.cs) row' ≡ took x.vs = ((rows-there-and-back t x.cs x.have).reads row' x.vs).1 (x.may, x.is) in
    rw (x.have, p)

pub import-of-export : ImportOfExport
unfolding csv_import csv_export import_by export_by
import-of-export table message row' room ok e = go (check table) refl e
  where
    go : (c : Checked) → check table ≡ c → export_by c table message room ≡ bytes row' → SameAgain table message row'
    go (Err r) c e = not-both (ap is_bytes e) refl
    go (Good l) c e =
        let x = was-exported (shape_of table l) (columns_of (shape_of table l)) message row' room ok refl e in
        record {
          layout = l;
          is-good = c;
          again = message_of x.cs x.vs;
          imports = λ room. rw c (import-back (shape_of table l) message row' room x);
          same = λ rest. same-again (shape_of table l) message row' rest x;
        }

-- ---- import's answers

took-parsed : (cs : List Column) (room : ℕ) (vs : List Value) → import_parsed cs room (took vs) ≡ within room (message_of cs vs)
unfolding import_parsed
took-parsed cs room vs = refl

stopped-parsed : (cs : List Column) (room n : ℕ) → import_parsed cs room (stopped n) ≡ refusal (NoRow n)
unfolding import_parsed
stopped-parsed cs room n = refl

-- what is given is said
module _ (table input : List ℕ) (room : ℕ) where
  given-row : (l : Layout) (cs : List Column) → check table ≡ Good l → columns_of (shape_of table l) ≡ some cs
      → (p : Parsed) → parse (styles_of cs) input ≡ p → Imports table input room (import_parsed cs room p)
  unfolding import_parsed
  given-row l cs good have (took vs) e =
      let p = ((rows-there-and-back (shape_of table l) cs have).reads input vs).0 e in
      fits l cs good have (row_of vs p.0 p.1)
  given-row l cs good have (stopped n) e = fits l cs good have (stops_at n (((rows-there-and-back (shape_of table l) cs have).stops input n).0 e))

  given-columns : (l : Layout) → check table ≡ Good l → (o : Option (List Column)) → columns_of (shape_of table l) ≡ o → Imports table input room (import_of o input room)
  unfolding import_of
  given-columns l good none have = unfit l good have
  given-columns l good (some cs) have = given-row l cs good have (parse (styles_of cs) input) refl

  given-said : (c : Checked) → check table ≡ c → Imports table input room (import_by c table input room)
  unfolding import_by
  given-said (Good l) e = given-columns l e (columns_of (shape_of table l)) refl
  given-said (Err r) e = bad_table r.why r.place e

  -- what is said is given
  row-given : (l : Layout) (cs : List Column) → columns_of (shape_of table l) ≡ some cs → (o : Output) → Imported cs input room o
      → import_parsed cs room (parse (styles_of cs) input) ≡ o
  row-given l cs have o (row_of vs h e) = rw (((rows-there-and-back (shape_of table l) cs have).reads input vs).1 (h, e)) (took-parsed cs room vs)
  row-given l cs have o (stops_at n st) = rw (((rows-there-and-back (shape_of table l) cs have).stops input n).1 st) (stopped-parsed cs room n)

  said-given : (o : Output) → Imports table input room o → csv_import table input room ≡ o
  unfolding csv_import import_by import_of
  said-given o (bad_table why i e) = rw e
  said-given o (unfit l good have) = rw (good, have)
  said-given o (fits l cs good have i) = rw (good, have) (row-given l cs have o i)

pub imports-exactly : ImportsExactly
unfolding csv_import
imports-exactly table input room o =
    (said-given table input room o, λ e. paths.subst (λ o. Imports table input room o) e (given-said table input room (check table) refl))
