-- `put_quoted::fill_doubled` meets its contract: the loop's invariant is that the bytes from `i` on are left.
-- Assumes nothing.
use Prim.Native.Nat.{◌-◌}
use Rattle.put_quoted.proofs.Quoting.{doubling-begin, doubling-room, doubling-next, doubling-end}
use Rattle.put_quoted.proofs.fill_doubled.Goals as goal

pub loop-i-init : goal.loop-i-init
loop-i-init c = doubling-begin _ _ _ c.requires

pub fill_one-to-requires : goal.fill_one-to-requires
fill_one-to-requires c = doubling-room c.loop-i.invariant c.loop-i-test.true

pub loop-i-preserved : goal.loop-i-preserved
loop-i-preserved c = doubling-next c.loop-i.invariant c.loop-i-test.true c.fill_one-to.ensures.0 c.fill_one-to.ensures.1

pub shape_of-out : goal.shape_of-out
shape_of-out c = c.loop-i.invariant.left.long

pub returns : goal.returns
returns c = doubling-end c.loop-i.invariant c.loop-i-test.false
