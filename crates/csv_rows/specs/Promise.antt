-- What import leaves, said by all value lists; that one answer, and one output, meet the contract of each call; and what a message that
-- is read strictly comes back to.
-- Assumes nothing.
use Rattle.std.specs.Prelude.{◌≡◌, List, ℕ, length, take}
use Rattle.wire.specs.Values.{Entry}
use Rattle.wire.specs.Reading.{Spot, reached}
use Rattle.wire.specs.Answers.{reads_strict}
use Rattle.laws.specs.Range.{AreBytes}
use Rattle.desk.specs.CsvAnswer.{CsvAnswer}
use Rattle.desk.specs.Csv.{Output, bytes, within, csv_export, Imports}
use Rattle.laws.specs.Unique.{Unique}
use Rattle.export_row.specs.Outputs.{Gives}

-- the answer, and the output as it is left, are those of an import
pub record GivesImport (table row out : List ℕ) (a : CsvAnswer) (left : List ℕ) : Type 0 where
  pub output : Output
  pub imports : Imports table row (length out) output
  pub gives : Gives output out a left

abbrev pub OneExport : Type 0
OneExport = (table message out : List ℕ) → Unique (λ (r : CsvAnswer × List ℕ). Gives (csv_export table message (length out)) out r.0 r.1)

abbrev pub OneImport : Type 0
OneImport = (table row out : List ℕ) → Unique (λ (r : CsvAnswer × List ℕ). GivesImport table row out r.0 r.1)

-- The import of the export of a message that is read strictly gives the bytes that were read.
abbrev pub StrictSameBytes : Type 0
StrictSameBytes = (table message store row : List ℕ) (es : List Entry) (end : Spot) (room room' : ℕ) → AreBytes message
    → reads_strict table message store ≡ record { made = es; ends = reached end } → csv_export table message room ≡ bytes row
    → Imports table row room' (within room' (take end.place message))
