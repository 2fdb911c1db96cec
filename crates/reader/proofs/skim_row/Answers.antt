-- `reader::skim_row` meets its contract: a row is one round of itself.
-- Assumes nothing.
use Rattle.reader.proofs.Promised.{skims-row}
use Rattle.reader.proofs.skim_row.Goals as goal

pub returns : goal.returns
returns c = skims-row _ _ _ _ _ _ _ c.skim_rounds.ensures
