-- `put_content::fill_text` meets its contract: the loop's invariant is that the bytes from `i` on are left.
-- Assumes nothing.
use Prim.Native.Nat.{◌-◌}
use native.Mathlib.Omega.{arith}
use lib.ListN.{drop_of_length-le}
use Rattle.put_content.proofs.Undoing.{filling-begin, filling-room, filling-next, filling-end, undoubled-from, undoubled-none, steps-few}
use Rattle.put_content.specs.Undone.{undoubled}
use Rattle.put_content.proofs.fill_text.Goals as goal

pub loop-i-init : goal.loop-i-init
loop-i-init c = filling-begin undoubled _ _ _ c.requires

pub overflow_add-next : goal.overflow_add-next
overflow_add-next c = omega (arith, (steps-few c.step.ensures).1)

pub bounds-out-to : goal.bounds-out-to
bounds-out-to c = filling-room undoubled c.loop-i.invariant _ _ (undoubled-from _ _ _ c.loop-i-test.true c.step.ensures)

pub overflow_add-to : goal.overflow_add-to
overflow_add-to c = omega (arith, filling-room undoubled c.loop-i.invariant _ _ (undoubled-from _ _ _ c.loop-i-test.true c.step.ensures))

pub loop-i-smaller : goal.loop-i-smaller
loop-i-smaller c = omega (arith, (steps-few c.step.ensures).0)

pub loop-i-preserved : goal.loop-i-preserved
loop-i-preserved c = filling-next undoubled c.loop-i.invariant _ _ (undoubled-from _ _ _ c.loop-i-test.true c.step.ensures)

pub shape_of-out : goal.shape_of-out
shape_of-out c = c.loop-i.invariant.long

pub returns : goal.returns
returns c = filling-end undoubled undoubled-none c.loop-i.invariant (drop_of_length-le _ c.loop-i-test.false)
