-- `starts::by_windows` meets its contract. The loop's invariant: the rows that lead in front of the next window stand at their messages.
-- Assumes nothing.
use mathlib.Core.Path.{refl, ◌∙◌}
use Rattle.row.proofs.Bytes.{length-rows_in}
use Prim.Native.Nat.{◌-◌}
use Rattle.row.specs.Ranks.{row_count}
use Rattle.starts.proofs.Judged.{judging-begin, marks-upto, marks-window, marks-more, judged-unread, judged-wrong, judging-next, judged-end}
use native.Mathlib.Omega.{arith}
use Rattle.starts.proofs.by_windows.Goals as goal

pub loop-base-init : goal.loop-base-init
loop-base-init c = (judging-begin _, refl)

pub mark-requires : goal.mark-requires
mark-requires c = record { keyed_by = c.requires.keyed_by; starts = c.loop-base.invariant.0.starts; base_in_bounds = (c.loop-base-test.true, omega (arith, c.requires.area_nonzero, c.loop-base.invariant.1)) }

pub shape_of-area-in_default : goal.shape_of-area-in_default
shape_of-area-in_default c = c.area-1.given ∙ c.loop-base.invariant.1

pub returns-in_default : goal.returns-in_default
returns-in_default c = judged-unread _ c.requires.keyed_by.fits c.mark.ensures c.in_default.is

pub all_stand-requires : goal.all_stand-requires
all_stand-requires c = record { keyed_by = c.requires.keyed_by; window = marks-window (marks-upto c.mark.ensures c.in-Some.is) }

pub shape_of-area-then-not-all_stand : goal.shape_of-area-then-not-all_stand
shape_of-area-then-not-all_stand c = c.area-1.given ∙ c.loop-base.invariant.1

pub returns-then-not-all_stand : goal.returns-then-not-all_stand
returns-then-not-all_stand c = judged-wrong _ c.requires.keyed_by.fits c.loop-base.invariant.0 (marks-upto c.mark.ensures c.in-Some.is) c.all_stand.ensures c.if-not-all_stand.true

pub loop-base-smaller : goal.loop-base-smaller
loop-base-smaller c = omega (arith, marks-more (marks-upto c.mark.ensures c.in-Some.is), c.loop-base-test.true)

pub loop-base-preserved : goal.loop-base-preserved
loop-base-preserved c = (judging-next _ c.requires.keyed_by.fits c.loop-base.invariant.0 (marks-upto c.mark.ensures c.in-Some.is) c.all_stand.ensures c.if-not-all_stand.false, c.area-1.given ∙ c.loop-base.invariant.1)

pub shape_of-area : goal.shape_of-area
shape_of-area c = c.loop-base.invariant.1

pub returns : goal.returns
unfolding row_count
returns c = judged-end _ c.requires.keyed_by.fits c.loop-base.invariant.0 c.requires.rows_value c.loop-base-test.false (length-rows_in _)
