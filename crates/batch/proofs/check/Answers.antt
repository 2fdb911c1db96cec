-- `batch::check` meets its contract.
-- Assumes nothing.
use mathlib.Core.Path.{sym, ◌∙◌}
use lib.Seq.{length-take-le}
use Rattle.laws.proofs.Answers.{handed-up}
use Rattle.batch.proofs.Opening.{parted-of}
use Rattle.batch.proofs.Checking.{check-table, check-fault, check-good, check-bad}
use native.Mathlib.Omega.{arith}
use Rattle.batch.proofs.check.Goals as goal

pub take_apart-requires : goal.take_apart-requires
take_apart-requires c = sym c.check.ensures ∙ c.in_ok-layout.was

pub slice_bounds-judge-end : goal.slice_bounds-judge-end
slice_bounds-judge-end c = sym (length-take-le _ _ (omega (arith, (parted-of c.take_apart.ensures c.in_ok-fields.was).starts, (parted-of c.take_apart.ensures c.in_ok-fields.was).ends)))

pub slice_bounds-judge-count : goal.slice_bounds-judge-count
slice_bounds-judge-count c = (parted-of c.take_apart.ensures c.in_ok-fields.was).starts

pub slice_bounds-judge-start : goal.slice_bounds-judge-start
slice_bounds-judge-start c = (parted-of c.take_apart.ensures c.in_ok-fields.was).starts

pub slice_bounds-judge-end-2 : goal.slice_bounds-judge-end-2
slice_bounds-judge-end-2 c = omega (arith, (parted-of c.take_apart.ensures c.in_ok-fields.was).ends)

pub judge-requires : goal.judge-requires
judge-requires c = (parted-of c.take_apart.ensures c.in_ok-fields.was).keyed

pub returns-then-judge : goal.returns-then-judge
returns-then-judge c = check-good _ _ c.check.ensures c.in_ok-layout.was (parted-of c.take_apart.ensures c.in_ok-fields.was) c.judge.ensures c.if-judge.true

pub returns-in_err-layout : goal.returns-in_err-layout
returns-in_err-layout c = handed-up c.from_residual.ensures ∙ check-table _ _ c.check.ensures c.in_err-layout.was

pub returns-in_err-fields : goal.returns-in_err-fields
returns-in_err-fields c = handed-up c.from_residual-in_err-fields.ensures ∙ check-fault _ _ c.check.ensures c.in_ok-layout.was c.take_apart.ensures c.in_err-fields.was

pub returns : goal.returns
returns c = check-bad _ _ c.check.ensures c.in_ok-layout.was (parted-of c.take_apart.ensures c.in_ok-fields.was) c.judge.ensures c.if-judge.false
