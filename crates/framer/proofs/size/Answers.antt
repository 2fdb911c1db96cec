-- `framer::size` meets its contract: what was passed and what is left make the length.
-- Assumes nothing.
use mathlib.Core.Path.{◌∙◌}
use Prim.Native.Nat.{◌-◌}
use Rattle.framer.proofs.Sizing.{sizing-begin, sizing-end, sizing-inside, sizing-less, sizing-full, sizing-through}
use native.Mathlib.Omega.{arith}
use Rattle.framer.proofs.size.Goals as goal

-- src/lib.rt:43:5
pub loop-from-init : goal.loop-from-init
loop-from-init c = sizing-begin _

-- src/lib.rt:43:18
pub overflow_sub-len : goal.overflow_sub-len
overflow_sub-len c = c.loop-from.invariant.within

-- src/lib.rt:44:13
pub through_zero-passed-requires : goal.through_zero-passed-requires
through_zero-passed-requires c = sizing-inside c.loop-from.invariant (omega (arith, c.loop-from-test.true))

-- src/lib.rt:46:20
pub overflow_add-from : goal.overflow_add-from
overflow_add-from c = omega (arith, sizing-inside c.loop-from.invariant (omega (arith, c.loop-from-test.true)))

-- src/lib.rt:47:20
pub overflow_add-more : goal.overflow_add-more
overflow_add-more c = omega (arith, c.loop-from.invariant.few, c.loop-from.invariant.within)

-- src/lib.rt:43:5
pub loop-from-smaller-then-passed-eq0 : goal.loop-from-smaller-then-passed-eq0
loop-from-smaller-then-passed-eq0 c = omega (arith, sizing-inside c.loop-from.invariant (omega (arith, c.loop-from-test.true)))

-- src/lib.rt:43:5
pub loop-from-preserved-then-passed-eq0 : goal.loop-from-preserved-then-passed-eq0
loop-from-preserved-then-passed-eq0 c = sizing-full c.loop-from.invariant (omega (arith, c.loop-from-test.true)) (omega (arith, c.loop-from-test.true)) (rw (← c.through_zero-passed.ensures) c.if-passed-eq0.true)

-- src/lib.rt:49:20
pub overflow_add-from-else-passed-eq0 : goal.overflow_add-from-else-passed-eq0
overflow_add-from-else-passed-eq0 c = omega (arith, sizing-less c.loop-from.invariant (omega (arith, c.loop-from-test.true)), c.through_zero-passed.ensures, sizing-inside c.loop-from.invariant (omega (arith, c.loop-from-test.true)))

-- src/lib.rt:43:5
pub loop-from-smaller : goal.loop-from-smaller
loop-from-smaller c = omega (arith, sizing-less c.loop-from.invariant (omega (arith, c.loop-from-test.true)), c.through_zero-passed.ensures, sizing-inside c.loop-from.invariant (omega (arith, c.loop-from-test.true)), c.if-passed-eq0.false)

-- src/lib.rt:43:5
pub loop-from-preserved : goal.loop-from-preserved
loop-from-preserved c = rw c.through_zero-passed.ensures (sizing-through c.loop-from.invariant (omega (arith, c.loop-from-test.true)) (λ e. c.if-passed-eq0.false (c.through_zero-passed.ensures ∙ e)))

-- src/lib.rt:52:5
pub overflow_add-result : goal.overflow_add-result
overflow_add-result c = omega (arith, c.loop-from.invariant.few, c.loop-from.invariant.within)

-- src/lib.rt:52:5
pub overflow_add-result-2 : goal.overflow_add-result-2
overflow_add-result-2 c = omega (arith, c.loop-from.invariant.few, c.loop-from.invariant.within)

-- src/lib.rt:37:1
pub returns : goal.returns
returns c = sizing-end c.loop-from.invariant c.loop-from-test.false
