-- How an export or an import ends, in the words of the rules.
-- Assumes nothing.
use Rattle.std.specs.Prelude.{ℕ, Result, Ok, Err}
use Rattle.wire.specs.declared.Refusal.{Refusal}
use Rattle.desk.specs.declared.NotRows.{NotRows}
use Rattle.desk.specs.declared.NotRows.TheVariants.{Refused as Not, Unfit as NoRows, NoRow as Bad}

-- the bytes written; a refusal of the wire and its place; a table that has no rows; or the place where an input stops being a row
abbrev pub CsvAnswer : Type 0
CsvAnswer = Result ℕ NotRows

pattern abbrev pub Done : (place : ℕ) → CsvAnswer
Done place = Ok place

pattern abbrev pub Refused : Refusal → (place : ℕ) → CsvAnswer
Refused why place = Err (Not why place)

pattern abbrev pub Unfit : CsvAnswer
Unfit = Err NoRows

pattern abbrev pub NoRow : (place : ℕ) → CsvAnswer
NoRow place = Err (Bad place)
