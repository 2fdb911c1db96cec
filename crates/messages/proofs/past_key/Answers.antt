-- `messages::past_key` meets its contract, byte by byte.
-- Assumes nothing.
use Prim.Native.Nat.{◌+◌}
use native.Mathlib.Omega.{arith}
use Rattle.messages.proofs.Past.{in_one, in_two, in_three, in_four}
use Rattle.messages.proofs.past_key.Goals as goal

pub overflow_cast-a : goal.overflow_cast-a
overflow_cast-a c = omega (arith, c.shared_slice_known-then-part-at-ge4-1.given c.args.at)

pub returns-then-a-lt128 : goal.returns-then-a-lt128
returns-then-a-lt128 c = in_one _ _ _ (omega (arith, c.if-part-at-ge4.true)) c.if-a-lt128.true

pub overflow_cast-b : goal.overflow_cast-b
overflow_cast-b c = omega (arith, c.shared_slice_known-then-part-at-ge4-2-1.given (c.args.at + 1))

pub returns-then-b-lt128 : goal.returns-then-b-lt128
returns-then-b-lt128 c = in_two _ _ _ (omega (arith, c.if-part-at-ge4.true)) c.if-a-lt128.false c.if-b-lt128.true

pub overflow_cast-c : goal.overflow_cast-c
overflow_cast-c c = omega (arith, c.shared_slice_known-then-part-at-ge4-3-1.given (c.args.at + 2))

pub returns-then-c-lt128 : goal.returns-then-c-lt128
returns-then-c-lt128 c = in_three _ _ _ (omega (arith, c.if-part-at-ge4.true)) c.if-a-lt128.false c.if-b-lt128.false c.if-c-lt128.true

pub overflow_cast-d : goal.overflow_cast-d
overflow_cast-d c = omega (arith, c.shared_slice_known-then-part-at-ge4-4-1.given (c.args.at + 3))

pub returns-then-d-lt128 : goal.returns-then-d-lt128
returns-then-d-lt128 c = in_four _ _ _ (omega (arith, c.if-part-at-ge4.true)) c.if-a-lt128.false c.if-b-lt128.false c.if-c-lt128.false c.if-d-lt128.true
