-- `accumulator::feed_bridge` meets its contract: it lends its own arrays.
-- Assumes nothing.
use Rattle.wire.specs.Frames.{room, feed_bridge}
use borrow.Author.Rules.{rules}
use Rattle.accumulator.proofs.feed_bridge.Goals as goal

pub feed_table-step-requires : goal.feed_table-step-requires
unfolding room
feed_table-step-requires c = (search rules, search rules)

pub returns : goal.returns
unfolding feed_bridge
returns c = search rules
