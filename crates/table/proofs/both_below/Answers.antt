-- `table::both_below` meets its contract: where a is below, the test of b is left.
-- Assumes nothing.
use borrow.Author.Tests.{lt-ltb, le-ltb}
use Rattle.wire.specs.Tests.{both}
use Rattle.table.proofs.both_below.Goals as goal

pub returns-then-a-node : goal.returns-then-a-node
unfolding both
returns-then-a-node c = simp (lt-ltb _ _ c.if-a-node.true)

pub returns : goal.returns
unfolding both
returns c = simp (le-ltb _ _ c.if-a-node.false)
