-- `put_content::fill_bytes` meets its contract: the loop's invariant is that the bytes from `i` on are left.
-- Assumes nothing.
use Prim.Native.Nat.{◌-◌}
use native.Mathlib.Omega.{arith}
use Rattle.put_content.proofs.Undoing.{filling-begin, filling-room, filling-next, bytes-end, bytes-from}
use Rattle.put_content.specs.Undone.{unhexed}
use Rattle.put_content.proofs.fill_bytes.Goals as goal

pub loop-i-init : goal.loop-i-init
loop-i-init c = (filling-begin unhexed _ _ _ c.requires.bytes_in_bounds, omega arith)

pub overflow_add-i : goal.overflow_add-i
overflow_add-i c = omega (arith, c.loop-i.invariant.1)

pub number-high-requires : goal.number-high-requires
number-high-requires c = c.requires.are_hex.each _ (omega arith)

pub number-low-requires : goal.number-low-requires
number-low-requires c = c.requires.are_hex.each _ (omega arith)

pub overflow_mul-out : goal.overflow_mul-out
overflow_mul-out c = omega (arith, c.number-high.ensures.1)

pub overflow_add-out : goal.overflow_add-out
overflow_add-out c = omega (arith, c.number-high.ensures.1, c.number-low.ensures.1)

pub bounds-out-to : goal.bounds-out-to
bounds-out-to c = filling-room unhexed c.loop-i.invariant.0 _ _ (bytes-from _ _ c.loop-i-test.true)

pub overflow_add-to : goal.overflow_add-to
overflow_add-to c = omega (arith, filling-room unhexed c.loop-i.invariant.0 _ _ (bytes-from _ _ c.loop-i-test.true))

pub loop-i-preserved : goal.loop-i-preserved
loop-i-preserved c = (rw (c.number-high.ensures.0, c.number-low.ensures.0) (filling-next unhexed c.loop-i.invariant.0 _ _ (bytes-from _ _ c.loop-i-test.true)), omega arith)

pub shape_of-out : goal.shape_of-out
shape_of-out c = c.loop-i.invariant.0.long

pub returns : goal.returns
returns c = bytes-end c.loop-i.invariant.0 (omega arith)
