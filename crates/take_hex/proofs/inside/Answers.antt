-- `take_hex::inside` meets its contract: the loop's invariant is that what follows from `at` on is all that follows.
-- Assumes nothing.
use mathlib.Core.Path.{sym, ◌∙◌}
use native.Mathlib.Omega.{arith}
use Rattle.take_hex.proofs.Counting.{going-begin, going-close, going_end, going-odd, going_on}
use Rattle.take_hex.proofs.inside.Goals as goal

pub loop-at-init : goal.loop-at-init
loop-at-init c = going-begin _ _ c.requires

pub close-requires : goal.close-requires
close-requires c = record { at_in_bounds = c.loop-at.invariant.inside; at_value = sym c.is_hex.ensures ∙ c.if-not-is_hex.true }

pub returns-then-not-is_hex : goal.returns-then-not-is_hex
returns-then-not-is_hex c = going-close c.loop-at.invariant c.close.ensures

pub returns-then-not-is_hex-2 : goal.returns-then-not-is_hex-2
returns-then-not-is_hex-2 c = going-odd c.loop-at.invariant (sym c.is_hex.ensures ∙ c.if-not-is_hex.false) (sym c.is_hex-in-loop-at.ensures ∙ c.if-not-is_hex-2.true)

pub overflow_add-at : goal.overflow_add-at
overflow_add-at c = let g = going_on c.loop-at.invariant (sym c.is_hex.ensures ∙ c.if-not-is_hex.false) (sym c.is_hex-in-loop-at.ensures ∙ c.if-not-is_hex-2.false) in omega (arith, g.inside)

pub overflow_add-len : goal.overflow_add-len
overflow_add-len c = omega (arith, c.loop-at.invariant.few, c.loop-at.invariant.inside)

pub loop-at-smaller : goal.loop-at-smaller
loop-at-smaller c = let g = going_on c.loop-at.invariant (sym c.is_hex.ensures ∙ c.if-not-is_hex.false) (sym c.is_hex-in-loop-at.ensures ∙ c.if-not-is_hex-2.false) in omega (arith, g.inside)

pub loop-at-preserved : goal.loop-at-preserved
loop-at-preserved c = going_on c.loop-at.invariant (sym c.is_hex.ensures ∙ c.if-not-is_hex.false) (sym c.is_hex-in-loop-at.ensures ∙ c.if-not-is_hex-2.false)

pub returns : goal.returns
returns c = going_end c.loop-at.invariant (omega arith)
