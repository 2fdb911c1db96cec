-- `keeping::keep` meets its contract. The loop's invariant: what is kept of the messages so far is in place, and a window is at hand.
-- Assumes nothing.
use mathlib.Core.Path.{◌∙◌}
use Prim.Native.Nat.{◌-◌}
use Rattle.keeping.proofs.Passing.{good-sorted, passing-never, passing-on, passing-inside, mark-tells, at-hand-begin, at-hand-next}
use Rattle.keeping.proofs.Keeping.{keeping-begin, all, keeping-size, keeping-fits, keeping-room, keeping-next, keeping-pass, keeping-end}
use native.Mathlib.Omega.{arith}
use Rattle.keeping.proofs.keep.Goals as goal

pub mark_last-requires : goal.mark_last-requires
mark_last-requires c = good-sorted (all c.requires.keeps)

pub loop-at-init : goal.loop-at-init
loop-at-init c = (keeping-begin _ _ _, at-hand-begin c.mark_last.ensures)

pub next-requires : goal.next-requires
next-requires c = c.requires.keyed_by

pub shape_of-area-in_default : goal.shape_of-area-in_default
shape_of-area-in_default c = c.loop-at.invariant.1.long ∙ c.area-1.given

pub shape_of-out-in_default : goal.shape_of-out-in_default
shape_of-out-in_default c = keeping-size c.requires.keeps c.requires.keyed_by c.loop-at.invariant.0

pub returns-in_default : goal.returns-in_default
returns-in_default c = passing-never (all c.requires.keeps) c.requires.keyed_by.fits c.loop-at.invariant.0.passed c.loop-at-test.true c.next.ensures c.in_default.is

pub overflow_add-behind : goal.overflow_add-behind
overflow_add-behind c = omega (arith, passing-inside (all c.requires.keeps) c.requires.keyed_by.fits c.loop-at.invariant.0.passed c.loop-at-test.true c.next.ensures c.in-Ok.is, c.well_formed.1.1.1.0.1)

pub window_at-base-requires : goal.window_at-base-requires
window_at-base-requires c = record { rows_value = good-sorted (all c.requires.keeps); lasts = c.loop-at.invariant.1.lasts; base_le_at = (c.loop-at.invariant.1.from, omega (arith, c.requires.area_nonzero, c.loop-at.invariant.1.long, c.area-1.given)) }

pub overflow_sub-at : goal.overflow_sub-at
overflow_sub-at c = omega (arith, c.window_at-base.ensures.from)

pub slice_bounds-put_kept-end : goal.slice_bounds-put_kept-end
slice_bounds-put_kept-end c = passing-inside (all c.requires.keeps) c.requires.keyed_by.fits c.loop-at.invariant.0.passed c.loop-at-test.true c.next.ensures c.in-Ok.is

pub put_kept-requires : goal.put_kept-requires
put_kept-requires c = keeping-room c.requires.keeps c.requires.keyed_by c.loop-at.invariant.0 c.loop-at-test.true c.next.ensures c.in-Ok.is (mark-tells (all c.requires.keeps) c.requires.keyed_by.fits c.loop-at.invariant.0.passed c.loop-at-test.true c.next.ensures c.in-Ok.is c.window_at-base.ensures c.is_marked.ensures) c.if-is_marked.true

pub overflow_add-to : goal.overflow_add-to
overflow_add-to c = omega (arith, keeping-fits c.requires.keeps c.requires.keyed_by c.loop-at.invariant.0 c.loop-at-test.true c.next.ensures c.in-Ok.is (mark-tells (all c.requires.keeps) c.requires.keyed_by.fits c.loop-at.invariant.0.passed c.loop-at-test.true c.next.ensures c.in-Ok.is c.window_at-base.ensures c.is_marked.ensures) c.if-is_marked.true, keeping-room c.requires.keeps c.requires.keyed_by c.loop-at.invariant.0 c.loop-at-test.true c.next.ensures c.in-Ok.is (mark-tells (all c.requires.keeps) c.requires.keyed_by.fits c.loop-at.invariant.0.passed c.loop-at-test.true c.next.ensures c.in-Ok.is c.window_at-base.ensures c.is_marked.ensures) c.if-is_marked.true, keeping-size c.requires.keeps c.requires.keyed_by c.loop-at.invariant.0, c.well_formed.1.1.1.1.1.1.1.0.1)

pub overflow_add-many : goal.overflow_add-many
overflow_add-many c = omega (arith, keeping-room c.requires.keeps c.requires.keyed_by c.loop-at.invariant.0 c.loop-at-test.true c.next.ensures c.in-Ok.is (mark-tells (all c.requires.keeps) c.requires.keyed_by.fits c.loop-at.invariant.0.passed c.loop-at-test.true c.next.ensures c.in-Ok.is c.window_at-base.ensures c.is_marked.ensures) c.if-is_marked.true, keeping-size c.requires.keeps c.requires.keyed_by c.loop-at.invariant.0, c.well_formed.1.1.1.1.1.1.1.0.1)

pub loop-at-smaller-then-is_marked : goal.loop-at-smaller-then-is_marked
loop-at-smaller-then-is_marked c = omega (arith, passing-on (all c.requires.keeps) c.requires.keyed_by.fits c.loop-at.invariant.0.passed c.loop-at-test.true c.next.ensures c.in-Ok.is, c.loop-at-test.true)

pub loop-at-preserved-then-is_marked : goal.loop-at-preserved-then-is_marked
loop-at-preserved-then-is_marked c = (keeping-next c.requires.keeps c.requires.keyed_by c.loop-at.invariant.0 c.loop-at-test.true c.next.ensures c.in-Ok.is (mark-tells (all c.requires.keeps) c.requires.keyed_by.fits c.loop-at.invariant.0.passed c.loop-at-test.true c.next.ensures c.in-Ok.is c.window_at-base.ensures c.is_marked.ensures) c.if-is_marked.true c.put_kept.ensures, at-hand-next c.window_at-base.ensures (omega arith) (c.area-in-loop-at-1.given ∙ c.loop-at.invariant.1.long))

pub loop-at-smaller : goal.loop-at-smaller
loop-at-smaller c = omega (arith, passing-on (all c.requires.keeps) c.requires.keyed_by.fits c.loop-at.invariant.0.passed c.loop-at-test.true c.next.ensures c.in-Ok.is, c.loop-at-test.true)

pub loop-at-preserved : goal.loop-at-preserved
loop-at-preserved c = (keeping-pass c.requires.keeps c.requires.keyed_by c.loop-at.invariant.0 c.loop-at-test.true c.next.ensures c.in-Ok.is (mark-tells (all c.requires.keeps) c.requires.keyed_by.fits c.loop-at.invariant.0.passed c.loop-at-test.true c.next.ensures c.in-Ok.is c.window_at-base.ensures c.is_marked.ensures) c.if-is_marked.false, at-hand-next c.window_at-base.ensures (omega arith) (c.area-in-loop-at-1.given ∙ c.loop-at.invariant.1.long))

pub shape_of-area : goal.shape_of-area
shape_of-area c = c.loop-at.invariant.1.long ∙ c.area-1.given

pub shape_of-out : goal.shape_of-out
shape_of-out c = keeping-size c.requires.keeps c.requires.keyed_by c.loop-at.invariant.0

pub returns : goal.returns
returns c = keeping-end c.requires.keeps c.requires.keyed_by c.loop-at.invariant.0 c.loop-at-test.false
