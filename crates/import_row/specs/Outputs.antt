-- What a row that was taken gives.
-- Assumes nothing.
use Rattle.std.specs.Prelude.{ℕ}
use Rattle.desk.specs.CsvAnswer.{NoRow}
use Rattle.desk.specs.Csv.{Output, refusal, within}
use Rattle.take_row.specs.Messages.{Taken, gives, stops_at}

unfoldable pub taken_output : (room : ℕ) → Taken → Output
taken_output room (gives s) = within room s
taken_output room (stops_at p) = refusal (NoRow p)
