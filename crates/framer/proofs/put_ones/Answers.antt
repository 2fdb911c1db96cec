-- `framer::put_ones` meets its contract: each byte that was passed is a zero, and 01 was put for it.
-- Assumes nothing.
use Prim.Native.Nat.{◌-◌}
use native.Mathlib.Omega.{arith}
use Rattle.framer.proofs.Zeros.{filled-long, filled-one}
use Rattle.framer.proofs.put_ones.Goals as goal

pub overflow_sub-left : goal.overflow_sub-left
overflow_sub-left c = c.requires.within

pub put_eights-n-requires : goal.put_eights-n-requires
put_eights-n-requires c = c.requires

pub loop-n-init : goal.loop-n-init
loop-n-init c = λ start f. f

pub overflow_add-b : goal.overflow_add-b
overflow_add-b c = omega (arith, (c.loop-n.invariant _ c.put_eights-n.ensures).inside)

pub bounds-message-from : goal.bounds-message-from
bounds-message-from c = omega (arith, c.loop-n-test.true)

pub shape_of-out-then-b-ne0 : goal.shape_of-out-then-b-ne0
shape_of-out-then-b-ne0 c = filled-long (c.loop-n.invariant _ c.put_eights-n.ensures)

pub returns-then-b-ne0 : goal.returns-then-b-ne0
returns-then-b-ne0 c = (c.loop-n.invariant _ c.put_eights-n.ensures)

pub overflow_add-out : goal.overflow_add-out
overflow_add-out c = omega (arith, c.loop-n-test.true, c.requires.fits)

pub bounds-out-to : goal.bounds-out-to
bounds-out-to c = omega (arith, c.loop-n-test.true, c.requires.fits, filled-long (c.loop-n.invariant _ c.put_eights-n.ensures))

pub loop-n-smaller : goal.loop-n-smaller
loop-n-smaller c = omega (arith, c.loop-n-test.true)

pub loop-n-preserved : goal.loop-n-preserved
loop-n-preserved c = λ start f. filled-one (c.loop-n.invariant start f) (omega (arith, c.loop-n-test.true)) (omega arith)

pub shape_of-out : goal.shape_of-out
shape_of-out c = filled-long (c.loop-n.invariant _ c.put_eights-n.ensures)

pub returns : goal.returns
returns c = (c.loop-n.invariant _ c.put_eights-n.ensures)
