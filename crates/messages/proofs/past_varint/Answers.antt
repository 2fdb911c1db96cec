-- `messages::past_varint` meets its contract: the loop's invariant is `Passing`.
-- Assumes nothing.
use Prim.Native.Nat.{◌-◌}
use native.Mathlib.Omega.{arith}
use Rattle.messages.specs.Past.{nowhere}
use Rattle.messages.proofs.Past.{passing, at_last, at-short, go_on}
use Rattle.messages.proofs.past_varint.Goals as goal

pub loop-i-init : goal.loop-i-init
loop-i-init c = passing _ _ _ (omega arith)

pub returns-then-b-longest : goal.returns-then-b-longest
returns-then-b-longest c = at_last c.loop-i.invariant c.loop-i-test.true c.if-left-eq1.true c.if-b-longest.true

pub returns-then-left-eq1 : goal.returns-then-left-eq1
returns-then-left-eq1 c = nowhere

pub returns-then-b-lt128 : goal.returns-then-b-lt128
returns-then-b-lt128 c = at-short c.loop-i.invariant c.loop-i-test.true c.if-left-eq1.false c.if-b-lt128.true

pub overflow_sub-left : goal.overflow_sub-left
overflow_sub-left c = omega (arith, c.loop-i.invariant.some)

pub loop-i-preserved : goal.loop-i-preserved
loop-i-preserved c = go_on c.loop-i.invariant c.loop-i-test.true c.if-left-eq1.false c.if-b-lt128.false

pub returns : goal.returns
returns c = nowhere
