-- `table::one_below` meets its contract: where b is 0, the test of a is left.
-- Assumes nothing.
use borrow.Author.Tests.{eq-eqb, ne_eqb}
use Rattle.wire.specs.Tests.{both}
use Rattle.table.proofs.one_below.Goals as goal

pub returns-then-b-eq0 : goal.returns-then-b-eq0
unfolding both
returns-then-b-eq0 c = simp (eq-eqb _ _ c.if-b-eq0.true)

pub returns : goal.returns
unfolding both
returns c = simp (ne_eqb _ _ c.if-b-eq0.false)
