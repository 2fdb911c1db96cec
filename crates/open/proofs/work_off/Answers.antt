-- `open::work_off` meets its contract: the loop's invariant is that what the open items leave is the whole reading.
-- Assumes nothing.
use mathlib.Core.Path.{refl, ◌∙◌}
use native.Mathlib.Nat.{le_refl}
use native.Mathlib.Omega.{arith}
use Rattle.laws.proofs.Answers.{handed-up}
use Rattle.open.proofs.Working.{works-done, works-refused, works-goes, works-on}
use Rattle.open.proofs.work_off.Goals as goal

pub loop-depth-init : goal.loop-depth-init
loop-depth-init c = (record { whole = refl; chain = c.requires.chain; fits = omega arith }, refl, refl)

pub turn-requires : goal.turn-requires
turn-requires c = let p = c.requires in
    let i = c.loop-depth.invariant in record { good_table = p.good_table; part_bound = omega (arith, i.0.fits, c.well_formed.1.1.1.0); list_len = i.2 ∙ p.list_len; depth_nonzero = c.loop-depth-test.true; chain = i.0.chain }

pub shape_of-store-in_err-left : goal.shape_of-store-in_err-left
shape_of-store-in_err-left c = c.store-1.given ∙ c.loop-depth.invariant.1

pub shape_of-list-in_err-left : goal.shape_of-list-in_err-left
shape_of-list-in_err-left c = c.list-1.given ∙ c.loop-depth.invariant.2

pub returns-in_err-left : goal.returns-in_err-left
returns-in_err-left c = rw (handed-up c.from_residual.ensures) (works-refused c.loop-depth.invariant.0 c.turn.ensures c.in_err-left.was)

pub overflow_sub-used : goal.overflow_sub-used
overflow_sub-used c = (works-goes c.loop-depth.invariant.0 c.turn.ensures c.in_ok-left.was).up

pub slice_bounds-rest-count : goal.slice_bounds-rest-count
slice_bounds-rest-count c = (works-goes c.loop-depth.invariant.0 c.turn.ensures c.in_ok-left.was).inside

pub slice_bounds-rest-start : goal.slice_bounds-rest-start
slice_bounds-rest-start c = (works-goes c.loop-depth.invariant.0 c.turn.ensures c.in_ok-left.was).inside

pub slice_bounds-rest-end : goal.slice_bounds-rest-end
slice_bounds-rest-end c = le_refl _

pub loop-depth-smaller : goal.loop-depth-smaller
loop-depth-smaller c = (works-goes c.loop-depth.invariant.0 c.turn.ensures c.in_ok-left.was).less

pub loop-depth-preserved : goal.loop-depth-preserved
loop-depth-preserved c = (works-on c.loop-depth.invariant.0 c.turn.ensures c.in_ok-left.was, c.store-1.given ∙ c.loop-depth.invariant.1, c.list-1.given ∙ c.loop-depth.invariant.2)

pub shape_of-store : goal.shape_of-store
shape_of-store c = c.loop-depth.invariant.1

pub shape_of-list : goal.shape_of-list
shape_of-list c = c.loop-depth.invariant.2

pub returns : goal.returns
returns c = works-done c.loop-depth.invariant.0 c.loop-depth-test.false
