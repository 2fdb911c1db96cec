-- `zigzag::extend` meets its contract: the half is a power of two, as the width's law asks.
-- Assumes nothing.
use native.Mathlib.Omega.{arith}
use Rattle.zigzag.specs.Widths.{extended}
use Rattle.zigzag.proofs.Widths.{width-bits, half-some, extended-low, extended_fits, extended-high}
use Rattle.zigzag.proofs.extend.Goals as goal

pub nonzero_rem-low : goal.nonzero_rem-low
nonzero_rem-low c = omega (arith, half-some _ (width-bits c.args.bits))

pub nonzero_div-x : goal.nonzero_div-x
nonzero_div-x c = omega (arith, half-some _ (width-bits c.args.bits))

pub returns-then-x-half-eq0 : goal.returns-then-x-half-eq0
unfolding extended
returns-then-x-half-eq0 c = rw c.half_of-half.ensures (extended-low _ (width-bits _) _ (rw c.half_of-half.ensures at c.if-x-half-eq0.true))

pub overflow_sub-result : goal.overflow_sub-result
overflow_sub-result c = omega (arith, half-some _ (width-bits c.args.bits))

pub overflow_add-result : goal.overflow_add-result
overflow_add-result c = rw c.half_of-half.ensures (record { fits = extended_fits _ (width-bits c.args.bits) _ })

pub returns : goal.returns
unfolding extended
returns c = rw c.half_of-half.ensures (extended-high _ (width-bits _) _ (rw c.half_of-half.ensures at c.if-x-half-eq0.false))
