-- What is promised of rows, for every table that has rows.
-- Assumes nothing.
use Rattle.std.specs.Prelude.{◌↔◌, ◌≡◌, true, List, [], ◌∷◌, ◌++◌, ℕ, ◌<◌, ◌^◌, length}
use Rattle.std.proofs.Math.Option.{some}
use Rattle.wire.specs.declared.Layout.{Layout}
use Rattle.wire.specs.Checked.{Good}
use Rattle.wire.specs.Shape.{Shape}
use Rattle.wire.specs.Table.{check, shape_of}
use Rattle.wire.specs.Values.{Entry, Value, number, whole, values, SameValues}
use Rattle.wire.specs.Reading.{front, read}
use Rattle.wire.specs.Writing.{wrote, write}
use Rattle.laws.specs.Range.{AreBytes}
use Rattle.desk.specs.Csv.{Style, Stops, may_all, row, exported_rows, Column, columns_of, styles_of, message_of, Output, bytes, within, csv_export, Imports}
use Rattle.spellings.specs.Accept.{took, stopped, parse, csv_import}

-- reading a row byte by byte, in a table with these fields
pub record RowPromise (fs : List Style) : Type 0 where
  -- it gives these values exactly if the input is their row
  pub reads : (s : List ℕ) (vs : List Value) → (parse fs s ≡ took vs) ↔ ((may_all fs vs ≡ true) × (row fs vs ≡ s))
  -- it stops exactly there where no exported row goes on
  pub stops : (s : List ℕ) (n : ℕ) → (parse fs s ≡ stopped n) ↔ Stops (exported_rows fs) s n
  -- two value lists have the same row exactly if they are the same
  pub same : (vs ws : List Value) → may_all fs vs ≡ true → may_all fs ws ≡ true → (row fs vs ≡ row fs ws) ↔ (vs ≡ ws)

abbrev pub RowsThereAndBack : Type 0
RowsThereAndBack = (t : Shape) (cs : List Column) → columns_of t ≡ some cs → RowPromise (styles_of cs)

-- export of an import gives the row back, whatever follows the message
abbrev pub ExportOfImport : Type 0
ExportOfImport = (table input message rest : List ℕ) (room room' : ℕ) → length input < 2 ^ 64 → csv_import table input room ≡ bytes message
    → csv_export table (message ++ rest) room' ≡ within room' input

-- what a message's export is imported as: a message whose values are the same, whatever follows it
pub record SameAgain (table message row : List ℕ) : Type 0 where
  pub layout : Layout
  pub is-good : check table ≡ Good layout
  pub again : List ℕ
  pub imports : (room : ℕ) → csv_import table row room ≡ within room again
  pub same : (rest : List ℕ)
      → SameValues (shape_of table layout) message (read (shape_of table layout) (front message)).made (again ++ rest) (read (shape_of table layout) (front (again ++ rest))).made

-- import of an export gives the same values
abbrev pub ImportOfExport : Type 0
ImportOfExport = (table message row : List ℕ) (room : ℕ) → AreBytes message → csv_export table message room ≡ bytes row → SameAgain table message row

-- the writer's bytes of any value list, from any pool, are the import's message of its values
abbrev pub WritesTheSame : Type 0
WritesTheSame = (t : Shape) (cs : List Column) (pool s : List ℕ) (es : List Entry) (i : ℕ) → columns_of t ≡ some cs
    → write t pool (record { at = 0; entries = es }) ≡ wrote s (record { at = i; entries = [] })
    → (vs : List Value) × (values t pool es ≡ whole (number 0 0 ∷ vs)) × (message_of cs vs ≡ s)

-- a row that export writes of some message
pub record IsExported (table s : List ℕ) : Type 0 where
  pub message : List ℕ
  pub ok : AreBytes message
  pub exports : (room : ℕ) → csv_export table message room ≡ within room s

-- the exported rows are the rows of all value lists that the columns may have
abbrev pub ExportedExactly : Type 0
ExportedExactly = (table s : List ℕ) (l : Layout) (cs : List Column) → check table ≡ Good l → columns_of (shape_of table l) ≡ some cs → length s < 2 ^ 64
    → IsExported table s ↔ ((vs : List Value) × (may_all (styles_of cs) vs ≡ true) × (row (styles_of cs) vs ≡ s))

-- import, given byte by byte, is what is said of it by all value lists, and nothing else is
abbrev pub ImportsExactly : Type 0
ImportsExactly = (table input : List ℕ) (room : ℕ) (o : Output) → Imports table input room o ↔ (csv_import table input room ≡ o)
