-- `starts::mark` meets its contract. The loop's invariant: the marks are the starts from the window's first place on up to here.
-- Assumes nothing.
use Prim.Native.Nat.{◌-◌}
use lib.ListN.{length}
use Rattle.starts.proofs.Windows.{marking-begin, marking-stops, marking-inside, marking-less, marking-count, marking-next, marking-end}
use native.Mathlib.Omega.{arith}
use Rattle.starts.proofs.mark.Goals as goal

pub loop-at-init : goal.loop-at-init
loop-at-init c = marking-begin (length c.args.area.now) c.requires.starts c.clear.ensures

pub overflow_sub-place : goal.overflow_sub-place
overflow_sub-place c = omega (arith, c.loop-at.invariant.window.from)

pub returns-then-area-place : goal.returns-then-area-place
returns-then-area-place c = marking-end c.loop-at.invariant (omega (arith, c.loop-at.invariant.long))

pub next-requires : goal.next-requires
next-requires c = c.requires.keyed_by

pub returns-in_default : goal.returns-in_default
returns-in_default c = marking-stops c.requires.keyed_by.fits c.loop-at.invariant c.loop-at-test.true c.next.ensures c.in_default.is

pub overflow_add-at : goal.overflow_add-at
overflow_add-at c = omega (arith, marking-inside c.requires.keyed_by.fits c.loop-at.invariant c.loop-at-test.true c.next.ensures c.in-Ok.is)

pub overflow_add-count : goal.overflow_add-count
overflow_add-count c = omega (arith, marking-count c.requires.keyed_by.fits c.loop-at.invariant c.loop-at-test.true c.next.ensures c.in-Ok.is)

pub loop-at-smaller : goal.loop-at-smaller
loop-at-smaller c = omega (arith, marking-less c.requires.keyed_by.fits c.loop-at.invariant c.loop-at-test.true c.next.ensures c.in-Ok.is)

pub loop-at-preserved : goal.loop-at-preserved
loop-at-preserved c = marking-next c.requires.keyed_by.fits c.loop-at.invariant c.loop-at-test.true c.next.ensures c.in-Ok.is (omega arith) c.mark.ensures

pub returns : goal.returns
returns c = marking-end c.loop-at.invariant (omega (arith, c.requires))
