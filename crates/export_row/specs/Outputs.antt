-- An answer and a lent output that are those of an export or of an import; and what a row that was told gives.
-- Assumes nothing.
use Rattle.std.specs.Prelude.{◌≡◌, List, ℕ}
use Rattle.desk.specs.CsvAnswer.{CsvAnswer}
use Rattle.desk.specs.CsvAnswer.{Refused}
use Rattle.desk.specs.Csv.{Output, refusal, within, csv_answer, out_after}
use Rattle.put_row.specs.Rows.{Told, spells, stops}

-- the answer, and the output as it is left
pub record Gives (o : Output) (out : List ℕ) (a : CsvAnswer) (left : List ℕ) : Type 0 where
  pub answered : a ≡ csv_answer o
  pub stored : left ≡ out_after o out

unfoldable pub told_output : (room : ℕ) → Told → Output
told_output room (spells s p) = within room s
told_output room (stops e p) = refusal (Refused e p)
