-- `reader::skim_rounds` meets its contract: the answer is that of rounds into a store without words.
-- Assumes nothing.
use Rattle.reader.proofs.Promised.{skims-rounds}
use Rattle.reader.proofs.skim_rounds.Goals as goal

pub returns : goal.returns
returns c = skims-rounds _ _ _ _ _ _ _ _ _ c.read_rounds.ensures
