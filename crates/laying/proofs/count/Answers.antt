-- `laying::count` meets its contract. The loop's invariant: the messages so far are those in front, and their offsets fit if the last one's does.
-- Assumes nothing.
use Prim.Native.Nat.{◌-◌}
use native.Mathlib.Omega.{arith}
use Rattle.laying.proofs.Counting.{counting-begin, counting-inside, counting-stops, counting-next, counting-on, counting_more, counting-end}
use Rattle.laying.proofs.count.Goals as goal

pub loop-at-init : goal.loop-at-init
loop-at-init c = counting-begin _ _

pub next-requires : goal.next-requires
next-requires c = c.requires

pub overflow_add-result : goal.overflow_add-result
overflow_add-result c = omega (arith, counting-inside c.requires.fits c.loop-at.invariant c.loop-at-test.true c.next.ensures c.in-Err.is, c.well_formed.1.1.1.0.1)

pub returns-in-Err : goal.returns-in-Err
returns-in-Err c = counting-stops c.requires.fits c.loop-at.invariant c.loop-at-test.true c.next.ensures c.in-Err.is

pub overflow_add-at : goal.overflow_add-at
overflow_add-at c = omega (arith, counting_more c.requires.fits c.loop-at.invariant c.loop-at-test.true c.next.ensures c.in-Ok.is, c.well_formed.1.1.1.0.1)

pub overflow_add-many : goal.overflow_add-many
overflow_add-many c = omega (arith, c.loop-at.invariant.so_far.few, c.loop-at-test.true, c.well_formed.1.1.1.0.1)

pub loop-at-smaller : goal.loop-at-smaller
loop-at-smaller c = omega (arith, counting-on c.requires.fits c.loop-at.invariant c.loop-at-test.true c.next.ensures c.in-Ok.is, c.loop-at-test.true)

pub loop-at-preserved : goal.loop-at-preserved
loop-at-preserved c = counting-next c.requires.fits c.loop-at.invariant c.loop-at-test.true c.next.ensures c.in-Ok.is

pub returns : goal.returns
returns c = counting-end c.requires.fits c.loop-at.invariant c.loop-at-test.false
