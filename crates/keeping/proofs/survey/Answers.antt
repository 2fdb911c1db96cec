-- `keeping::survey` meets its contract. The loop's invariant: what is kept of the messages so far is counted, and a window is at hand.
-- Assumes nothing.
use mathlib.Core.Path.{◌∙◌}
use Prim.Native.Nat.{◌-◌}
use Rattle.keeping.proofs.Passing.{passing-begin, good-sorted, passing-never, passing-on, passing-inside, mark-tells, passing-keeps, passing-drops, passing-end, count-few, at-hand-begin, at-hand-next}
use native.Mathlib.Omega.{arith}
use Rattle.keeping.proofs.survey.Goals as goal

pub mark_last-requires : goal.mark_last-requires
mark_last-requires c = good-sorted c.requires.good

pub loop-at-init : goal.loop-at-init
loop-at-init c = (passing-begin _, at-hand-begin c.mark_last.ensures)

pub next-requires : goal.next-requires
next-requires c = c.requires.keyed_by

pub shape_of-area-in_default : goal.shape_of-area-in_default
shape_of-area-in_default c = c.loop-at.invariant.1.long ∙ c.area-1.given

pub returns-in_default : goal.returns-in_default
returns-in_default c = passing-never c.requires.good c.requires.keyed_by.fits c.loop-at.invariant.0 c.loop-at-test.true c.next.ensures c.in_default.is

pub overflow_add-behind : goal.overflow_add-behind
overflow_add-behind c = omega (arith, passing-inside c.requires.good c.requires.keyed_by.fits c.loop-at.invariant.0 c.loop-at-test.true c.next.ensures c.in-Ok.is, c.well_formed.1.1.1.0.1)

pub window_at-base-requires : goal.window_at-base-requires
window_at-base-requires c = record { rows_value = good-sorted c.requires.good; lasts = c.loop-at.invariant.1.lasts; base_le_at = (c.loop-at.invariant.1.from, omega (arith, c.requires.area_nonzero, c.loop-at.invariant.1.long, c.area-1.given)) }

pub overflow_sub-at : goal.overflow_sub-at
overflow_sub-at c = omega (arith, c.window_at-base.ensures.from)

pub overflow_add-count : goal.overflow_add-count
overflow_add-count c = omega (arith, count-few c.requires.good c.requires.keyed_by.fits c.loop-at.invariant.0, passing-inside c.requires.good c.requires.keyed_by.fits c.loop-at.invariant.0 c.loop-at-test.true c.next.ensures c.in-Ok.is, c.well_formed.1.1.1.0.1, c.loop-at.invariant.0.few, c.loop-at.invariant.0.so_far.few, c.loop-at-test.true)

pub overflow_add-len : goal.overflow_add-len
overflow_add-len c = omega (arith, c.loop-at.invariant.0.short, passing-inside c.requires.good c.requires.keyed_by.fits c.loop-at.invariant.0 c.loop-at-test.true c.next.ensures c.in-Ok.is, c.well_formed.1.1.1.0.1)

pub loop-at-smaller-then-is_marked : goal.loop-at-smaller-then-is_marked
loop-at-smaller-then-is_marked c = omega (arith, passing-on c.requires.good c.requires.keyed_by.fits c.loop-at.invariant.0 c.loop-at-test.true c.next.ensures c.in-Ok.is, c.loop-at-test.true)

pub loop-at-preserved-then-is_marked : goal.loop-at-preserved-then-is_marked
loop-at-preserved-then-is_marked c = (passing-keeps c.requires.good c.requires.keyed_by.fits c.loop-at.invariant.0 c.loop-at-test.true c.next.ensures c.in-Ok.is (mark-tells c.requires.good c.requires.keyed_by.fits c.loop-at.invariant.0 c.loop-at-test.true c.next.ensures c.in-Ok.is c.window_at-base.ensures c.is_marked.ensures) c.if-is_marked.true, at-hand-next c.window_at-base.ensures (omega arith) (c.area-in-loop-at-1.given ∙ c.loop-at.invariant.1.long))

pub loop-at-smaller : goal.loop-at-smaller
loop-at-smaller c = omega (arith, passing-on c.requires.good c.requires.keyed_by.fits c.loop-at.invariant.0 c.loop-at-test.true c.next.ensures c.in-Ok.is, c.loop-at-test.true)

pub loop-at-preserved : goal.loop-at-preserved
loop-at-preserved c = (passing-drops c.requires.good c.requires.keyed_by.fits c.loop-at.invariant.0 c.loop-at-test.true c.next.ensures c.in-Ok.is (mark-tells c.requires.good c.requires.keyed_by.fits c.loop-at.invariant.0 c.loop-at-test.true c.next.ensures c.in-Ok.is c.window_at-base.ensures c.is_marked.ensures) c.if-is_marked.false, at-hand-next c.window_at-base.ensures (omega arith) (c.area-in-loop-at-1.given ∙ c.loop-at.invariant.1.long))

pub shape_of-area : goal.shape_of-area
shape_of-area c = c.loop-at.invariant.1.long ∙ c.area-1.given

pub returns : goal.returns
returns c = passing-end c.requires.good c.requires.keyed_by.fits c.loop-at.invariant.0 c.loop-at-test.false
