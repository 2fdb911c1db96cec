-- `batch::compact` meets its contract.
-- Assumes nothing.
use mathlib.Core.Path.{sym, ◌∙◌}
use lib.Seq.{length-take-le}
use Rattle.batch.proofs.Opening.{parted-of}
use Rattle.batch.proofs.Compacting.{compact-table, compact-fault, compact-all}
use Rattle.laws.proofs.Answers.{handed-up}
use native.Mathlib.Omega.{arith}
use Rattle.batch.proofs.compact.Goals as goal

pub take_apart-requires : goal.take_apart-requires
take_apart-requires c = sym c.check.ensures ∙ c.in_ok-layout.was

pub slice_bounds-front-end : goal.slice_bounds-front-end
slice_bounds-front-end c = sym (length-take-le _ _ (omega (arith, (parted-of c.take_apart.ensures c.in_ok-fields.was).starts, (parted-of c.take_apart.ensures c.in_ok-fields.was).ends)))

pub slice_bounds-rows-count : goal.slice_bounds-rows-count
slice_bounds-rows-count c = (parted-of c.take_apart.ensures c.in_ok-fields.was).starts

pub slice_bounds-rows-start : goal.slice_bounds-rows-start
slice_bounds-rows-start c = (parted-of c.take_apart.ensures c.in_ok-fields.was).starts

pub slice_bounds-rows-end : goal.slice_bounds-rows-end
slice_bounds-rows-end c = omega (arith, (parted-of c.take_apart.ensures c.in_ok-fields.was).ends)

pub compact_parts-requires : goal.compact_parts-requires
compact_parts-requires c = (parted-of c.take_apart.ensures c.in_ok-fields.was).keyed

pub returns-in_err-layout : goal.returns-in_err-layout
returns-in_err-layout c = rw (handed-up c.from_residual.ensures) (compact-table _ _ _ c.check.ensures c.in_err-layout.was)

pub returns-in_err-fields : goal.returns-in_err-fields
returns-in_err-fields c = rw (handed-up c.from_residual-in_err-fields.ensures) (compact-fault _ _ _ c.check.ensures c.in_ok-layout.was c.take_apart.ensures c.in_err-fields.was)

pub returns : goal.returns
returns c = compact-all _ _ _ c.check.ensures c.in_ok-layout.was (parted-of c.take_apart.ensures c.in_ok-fields.was) c.compact_parts.ensures
