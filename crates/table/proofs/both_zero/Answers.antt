-- `table::both_zero` meets its contract: where a is 0, the test of b is left.
-- Assumes nothing.
use borrow.Author.Tests.{eq-eqb, ne_eqb}
use Rattle.wire.specs.Tests.{both}
use Rattle.table.proofs.both_zero.Goals as goal

pub returns-then-a-eq0 : goal.returns-then-a-eq0
unfolding both
returns-then-a-eq0 c = simp (eq-eqb _ _ c.if-a-eq0.true)

pub returns : goal.returns
unfolding both
returns c = simp (ne_eqb _ _ c.if-a-eq0.false)
