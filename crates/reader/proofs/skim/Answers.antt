-- `reader::skim` meets its contract: the answer is that of a reading into a store without words.
-- Assumes nothing.
use Rattle.reader.proofs.Promised.{skims-whole}
use Rattle.reader.proofs.skim.Goals as goal

pub returns : goal.returns
returns c = skims-whole _ _ _ _ c.read_with.ensures
