-- `bits::mark` meets its contract: a bit that is not set has room for its weight.
-- Assumes nothing.
use Prim.Native.Nat.{◌/◌, ◌%◌}
use lib.ListN.{get_or}
use Rattle.bits.proofs.Bits.{weight, room, mark-clear, mark-again}
use native.Mathlib.Omega.{arith}
use Rattle.bits.proofs.mark.Goals as goal

pub overflow_add-area : goal.overflow_add-area
overflow_add-area c = let a = c.args in
    record { fits = rw (weight (a.place % 8) (omega arith)) (room (get_or a.area.now (a.place / 8) 0) (a.place % 8) (omega arith) (omega (arith, c.slice_known-1.given (a.place / 8))) c.if-v-bit-eq0.true) }

pub returns-then-v-bit-eq0 : goal.returns-then-v-bit-eq0
returns-then-v-bit-eq0 c = mark-clear _ _ c.if-v-bit-eq0.true

pub returns-else-v-bit-eq0 : goal.returns-else-v-bit-eq0
returns-else-v-bit-eq0 c = mark-again _ _ c.if-v-bit-eq0.false
