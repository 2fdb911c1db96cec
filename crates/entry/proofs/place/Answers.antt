-- `entry::place` meets its contract: the word stands in the list.
-- Assumes nothing.
use Rattle.entry.specs.Words.{place_at}
use Rattle.entry.proofs.place.Goals as goal

pub returns : goal.returns
unfolding place_at
returns c = c.word.ensures
