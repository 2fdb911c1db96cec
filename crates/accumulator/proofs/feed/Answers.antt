-- `accumulator::feed` meets its contract: it lends its own arrays.
-- Assumes nothing.
use Rattle.wire.specs.Frames.{room}
use borrow.Author.Rules.{rules}
use Rattle.accumulator.proofs.feed.Goals as goal

pub feed_marked-got-requires : goal.feed_marked-got-requires
unfolding room
feed_marked-got-requires c = (search rules, search rules)
