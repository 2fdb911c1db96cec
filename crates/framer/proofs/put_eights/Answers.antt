-- `framer::put_eights` meets its contract: each eight that were passed are zeros, and eight times 01 were put for them.
-- Assumes nothing.
use native.Mathlib.Omega.{arith}
use Rattle.framer.proofs.Zeros.{filled_none, filled-long, filled-eight}
use Rattle.framer.proofs.put_eights.Goals as goal

pub overflow_sub-left : goal.overflow_sub-left
overflow_sub-left c = c.requires.within

pub loop-left-init : goal.loop-left-init
loop-left-init c = (filled_none c.requires.within, omega (arith, c.requires.within))

pub overflow_add-from : goal.overflow_add-from
overflow_add-from c = omega (arith, c.loop-left.invariant.1)

pub number-x-requires : goal.number-x-requires
number-x-requires c = omega (arith, c.loop-left.invariant.1)

pub shape_of-out-then-x-ne0 : goal.shape_of-out-then-x-ne0
shape_of-out-then-x-ne0 c = filled-long c.loop-left.invariant.0

pub returns-then-x-ne0 : goal.returns-then-x-ne0
returns-then-x-ne0 c = c.loop-left.invariant.0

pub overflow_add-to : goal.overflow_add-to
overflow_add-to c = omega (arith, c.loop-left.invariant.1, c.requires.fits)

pub put_eight-requires : goal.put_eight-requires
put_eight-requires c = omega (arith, c.loop-left.invariant.1, c.requires.fits, filled-long c.loop-left.invariant.0)

pub overflow_add-n : goal.overflow_add-n
overflow_add-n c = omega (arith, c.loop-left.invariant.1)

pub loop-left-preserved : goal.loop-left-preserved
loop-left-preserved c = (rw c.put_eight.ensures (filled-eight c.loop-left.invariant.0 (omega (arith, c.loop-left.invariant.1)) c.number-x.ensures (omega arith)), omega (arith, c.loop-left.invariant.1))

pub shape_of-out : goal.shape_of-out
shape_of-out c = filled-long c.loop-left.invariant.0

pub returns : goal.returns
returns c = c.loop-left.invariant.0
