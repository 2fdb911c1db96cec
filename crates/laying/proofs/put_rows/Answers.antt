-- `laying::put_rows` meets its contract. The loop's invariant: the rows of the messages so far stand in front.
-- Assumes nothing.
use Prim.Native.Nat.{◌-◌}
use native.Mathlib.Omega.{arith}
use Rattle.laying.proofs.Filling.{filling-begin, filling-never, filling-room, filling-next, filling-on, filling-more, filling-end, filling-size}
use Rattle.laying.proofs.put_rows.Goals as goal

pub loop-at-init : goal.loop-at-init
loop-at-init c = filling-begin _ _ _

pub next-requires : goal.next-requires
next-requires c = c.requires.keyed_by

pub shape_of-rows-in_default : goal.shape_of-rows-in_default
shape_of-rows-in_default c = filling-size c.requires.keyed_by.fits c.requires.whole c.loop-at.invariant

pub returns-in_default : goal.returns-in_default
returns-in_default c = filling-never c.requires.keyed_by.fits c.requires.whole c.loop-at.invariant c.loop-at-test.true c.next.ensures c.in_default.is

pub put-requires : goal.put-requires
put-requires c = filling-room c.requires.keyed_by.fits c.requires.whole c.loop-at.invariant c.loop-at-test.true c.next.ensures c.in-Ok.is

pub overflow_add-at : goal.overflow_add-at
overflow_add-at c = omega (arith, filling-more c.requires.keyed_by.fits c.requires.whole c.loop-at.invariant c.loop-at-test.true c.next.ensures c.in-Ok.is, c.well_formed.1.1.1.0.1)

pub overflow_add-many : goal.overflow_add-many
overflow_add-many c = omega (arith, c.loop-at.invariant.so_far.few, c.loop-at-test.true, c.well_formed.1.1.1.0.1)

pub loop-at-smaller : goal.loop-at-smaller
loop-at-smaller c = omega (arith, filling-on c.requires.keyed_by.fits c.requires.whole c.loop-at.invariant c.loop-at-test.true c.next.ensures c.in-Ok.is, c.loop-at-test.true)

pub loop-at-preserved : goal.loop-at-preserved
loop-at-preserved c = filling-next c.requires.keyed_by.fits c.requires.whole c.loop-at.invariant c.loop-at-test.true c.next.ensures c.in-Ok.is c.put.ensures

pub shape_of-rows : goal.shape_of-rows
shape_of-rows c = filling-size c.requires.keyed_by.fits c.requires.whole c.loop-at.invariant

pub returns : goal.returns
returns c = filling-end c.requires.keyed_by.fits c.requires.whole c.loop-at.invariant c.loop-at-test.false
