-- `table::few_below` meets its contract. The loop's invariant: the numbers that are left decide.
-- Assumes nothing.
use mathlib.Core.Path.{refl, sym, ◌∙◌}
use native.Mathlib.Omega.{arith}
use Rattle.table.proofs.Checks.{below-no, below_next, below_none}
use Rattle.table.proofs.few_below.Goals as goal

pub loop-left-init : goal.loop-left-init
loop-left-init c = (refl, c.requires)

pub returns-then-node-child : goal.returns-then-node-child
returns-then-node-child c = let a = c.args in
    below-no a.table.now a.node c.loop-left.at c.loop-left.left c.u16_at-child.result c.u16_at-child.ensures.0 c.loop-left-test.true (omega arith)
    ∙ c.loop-left.invariant.0

pub loop-left-preserved : goal.loop-left-preserved
loop-left-preserved c = let a = c.args in
    (sym (below_next a.table.now a.node c.loop-left.at c.loop-left.left c.u16_at-child.result c.u16_at-child.ensures.0 c.loop-left-test.true (omega arith)) ∙ c.loop-left.invariant.0, omega arith)

pub returns : goal.returns
returns c = below_none _ _ _ _ c.loop-left-test.false ∙ c.loop-left.invariant.0
