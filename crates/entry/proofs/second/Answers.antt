-- `entry::second` meets its contract: the word stands in the list.
-- Assumes nothing.
use Rattle.entry.specs.Words.{second_at}
use Rattle.entry.proofs.second.Goals as goal

pub returns : goal.returns
unfolding second_at
returns c = c.word.ensures
