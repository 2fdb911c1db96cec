-- `put_quoted::fill_hexes` meets its contract: the loop's invariant is that the bytes from `i` on are left.
-- Assumes nothing.
use Prim.Native.Nat.{◌-◌}
use native.Mathlib.Omega.{arith}
use lib.ListN.{length-set}
use Rattle.put_quoted.proofs.Quoting.{hexing-begin, hexing-room, hexing-next, hexing-end}
use Rattle.put_quoted.proofs.fill_hexes.Goals as goal

pub loop-i-init : goal.loop-i-init
loop-i-init c = hexing-begin _ _ _ c.requires

pub bounds-out-to : goal.bounds-out-to
bounds-out-to c = omega (arith, hexing-room c.loop-i.invariant c.loop-i-test.true)

pub overflow_add-out : goal.overflow_add-out
overflow_add-out c = omega (arith, hexing-room c.loop-i.invariant c.loop-i-test.true)

pub bounds-out-to-in-loop-i : goal.bounds-out-to-in-loop-i
bounds-out-to-in-loop-i c = simp length-set (omega (arith, hexing-room c.loop-i.invariant c.loop-i-test.true))

pub overflow_add-to : goal.overflow_add-to
overflow_add-to c = omega (arith, hexing-room c.loop-i.invariant c.loop-i-test.true)

pub loop-i-preserved : goal.loop-i-preserved
loop-i-preserved c = hexing-next c.loop-i.invariant c.loop-i-test.true c.hex-two.ensures

pub shape_of-out : goal.shape_of-out
shape_of-out c = c.loop-i.invariant.left.long

pub returns : goal.returns
returns c = hexing-end c.loop-i.invariant c.loop-i-test.false
