-- `batch::write_by` meets its contract.
-- Assumes nothing.
use mathlib.Core.Path.{sym}
use lib.Seq.{length-take-le}
use Rattle.laws.proofs.Answers.{handed-up}
use native.Mathlib.Omega.{arith}
use Rattle.batch.proofs.Writing.{write-stops, write-large, write-few, write-full, write-laid, write_done}
use Rattle.batch.proofs.write_by.Goals as goal

pub returns-then-not-sizes_fit : goal.returns-then-not-sizes_fit
returns-then-not-sizes_fit c = write-large c.requires _ _ c.count.ensures c.in_ok-tally.was c.sizes_fit.ensures c.if-not-sizes_fit.true

pub overflow_mul-behind : goal.overflow_mul-behind
overflow_mul-behind c = omega (arith, write-few c.requires c.args.bytes.now c.args.out.now c.count.ensures c.in_ok-tally.was c.sizes_fit.ensures c.if-not-sizes_fit.false)

pub overflow_add-behind : goal.overflow_add-behind
overflow_add-behind c = omega (arith, write-few c.requires c.args.bytes.now c.args.out.now c.count.ensures c.in_ok-tally.was c.sizes_fit.ensures c.if-not-sizes_fit.false)

pub returns-then-room-behind : goal.returns-then-room-behind
returns-then-room-behind c = write-full c.requires _ _ c.count.ensures c.in_ok-tally.was c.sizes_fit.ensures c.if-not-sizes_fit.false (omega (arith, c.if-room-behind.true))

pub returns-then-room-behind-2 : goal.returns-then-room-behind-2
returns-then-room-behind-2 c = write-full c.requires _ _ c.count.ensures c.in_ok-tally.was c.sizes_fit.ensures c.if-not-sizes_fit.false (omega (arith, c.if-room-behind-2.true))

pub slice_bounds-lay-end-2 : goal.slice_bounds-lay-end-2
slice_bounds-lay-end-2 c = sym (length-take-le _ _ (omega arith))

pub lay-requires : goal.lay-requires
lay-requires c = record { keyed_by = c.requires.by; laid = write-laid c.requires _ _ c.count.ensures c.in_ok-tally.was c.sizes_fit.ensures c.if-not-sizes_fit.false (omega (arith, c.if-room-behind.false, c.if-room-behind-2.false)) }

pub returns-in_err-tally : goal.returns-in_err-tally
returns-in_err-tally c = rw (handed-up c.from_residual.ensures) (write-stops c.requires _ _ c.count.ensures c.in_err-tally.was)

pub returns : goal.returns
returns c = write_done c.requires _ _ c.count.ensures c.in_ok-tally.was c.sizes_fit.ensures c.if-not-sizes_fit.false (omega (arith, c.if-room-behind.false, c.if-room-behind-2.false)) c.lay.ensures
