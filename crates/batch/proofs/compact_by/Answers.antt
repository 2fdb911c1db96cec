-- `batch::compact_by` meets its contract.
-- Assumes nothing.
use Rattle.batch.proofs.Compacting.{judged-good, compact-bad, compact-few, compact-full, compact-fits, compact-sizes, compact-keeps, compact-done}
use native.Mathlib.Omega.{arith}
use Rattle.batch.proofs.compact_by.Goals as goal

pub returns-then-not-judge : goal.returns-then-not-judge
returns-then-not-judge c = compact-bad c.requires.keyed_by _ _ _ c.judge.ensures c.if-not-judge.true

pub survey-surveyed-requires : goal.survey-surveyed-requires
survey-surveyed-requires c = record { keyed_by = c.requires.keyed_by; good = (judged-good c.judge.ensures c.if-not-judge.false); area_nonzero = omega (arith, c.requires.area_nonzero, c.area-1.given) }

pub has_room-requires : goal.has_room-requires
has_room-requires c = omega (arith, compact-few c.requires.keyed_by c.args.front.now c.args.rows.now c.args.out.now (judged-good c.judge.ensures c.if-not-judge.false) c.survey-surveyed.ensures, c.well_formed.1.1.1.1.0.1)

pub returns-then-not-has_room : goal.returns-then-not-has_room
returns-then-not-has_room c = compact-full c.requires.keyed_by _ _ _ (judged-good c.judge.ensures c.if-not-judge.false) c.survey-surveyed.ensures c.has_room.ensures c.if-not-has_room.true

pub overflow_mul-total : goal.overflow_mul-total
overflow_mul-total c = omega (arith, compact-few c.requires.keyed_by c.args.front.now c.args.rows.now c.args.out.now (judged-good c.judge.ensures c.if-not-judge.false) c.survey-surveyed.ensures, c.well_formed.1.1.1.1.0.1)

pub overflow_add-total : goal.overflow_add-total
overflow_add-total c = omega (arith, compact-fits c.requires.keyed_by c.args.front.now c.args.rows.now c.args.out.now (judged-good c.judge.ensures c.if-not-judge.false) c.survey-surveyed.ensures c.has_room.ensures c.if-not-has_room.false, c.well_formed.1.1.1.1.1.1.0.1)

pub overflow_add-total-2 : goal.overflow_add-total-2
overflow_add-total-2 c = omega (arith, compact-fits c.requires.keyed_by c.args.front.now c.args.rows.now c.args.out.now (judged-good c.judge.ensures c.if-not-judge.false) c.survey-surveyed.ensures c.has_room.ensures c.if-not-has_room.false, c.well_formed.1.1.1.1.1.1.0.1)

pub slice_bounds-lay-end : goal.slice_bounds-lay-end
slice_bounds-lay-end c = omega (arith, compact-fits c.requires.keyed_by c.args.front.now c.args.rows.now c.args.out.now (judged-good c.judge.ensures c.if-not-judge.false) c.survey-surveyed.ensures c.has_room.ensures c.if-not-has_room.false)

pub slice_bounds-lay-end-2 : goal.slice_bounds-lay-end-2
slice_bounds-lay-end-2 c = omega (arith, compact-sizes c.requires.keyed_by c.args.front.now c.args.rows.now c.args.out.now (judged-good c.judge.ensures c.if-not-judge.false) c.survey-surveyed.ensures c.has_room.ensures c.if-not-has_room.false)

pub lay-requires : goal.lay-requires
lay-requires c = record { keyed_by = c.requires.keyed_by; keeps = compact-keeps c.requires.keyed_by _ _ _ (judged-good c.judge.ensures c.if-not-judge.false) c.survey-surveyed.ensures c.has_room.ensures c.if-not-has_room.false; out_len = compact-sizes c.requires.keyed_by _ _ _ (judged-good c.judge.ensures c.if-not-judge.false) c.survey-surveyed.ensures c.has_room.ensures c.if-not-has_room.false; area_nonzero = omega (arith, c.requires.area_nonzero, c.area-1.given, c.area-2-1.given) }

pub returns : goal.returns
returns c = compact-done c.requires.keyed_by _ _ _ (judged-good c.judge.ensures c.if-not-judge.false) c.survey-surveyed.ensures c.has_room.ensures c.if-not-has_room.false c.lay.ensures
