-- `table::all_below` meets its contract. The loop's invariant: the largest so far and the numbers that are left decide.
-- Assumes nothing.
use mathlib.Core.Path.{◌∙◌}
use native.Mathlib.Omega.{arith}
use Rattle.table.proofs.Checks.{below-start, below-turn, below_end}
use Rattle.table.proofs.all_below.Goals as goal

pub loop-left-init : goal.loop-left-init
loop-left-init c = (below-start _ _ _ _ c.requires.1, c.requires.0)

pub loop-left-preserved : goal.loop-left-preserved
loop-left-preserved c = (rw c.larger-largest.ensures (below-turn _ _ _ _ _ _ _ c.loop-left.invariant.0 c.loop-left-test.true c.u16_at-child.ensures.0), omega arith)

pub returns : goal.returns
returns c = let a = c.args in
    let l = c.loop-left in
    rw c.wider.ensures (below_end a.table.now a.node l.at l.left l.largest c.loop-left-test.false ∙ l.invariant.0)
