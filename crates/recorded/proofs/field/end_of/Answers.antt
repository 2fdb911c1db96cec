-- `recorded::field::end_of` meets its contract: each way out is one of the cases of `end_of`.
-- Assumes nothing.
use mathlib.Core.Path.{sym}
use native.Mathlib.Omega.{arith}
use lib.Seq.{length-take-le}
use Rattle.recorded.proofs.Fields.{ends-short, ends-cut, ends_at}
use Rattle.recorded.proofs.field.end_of.Goals as goal

pub returns-then-all-lt2 : goal.returns-then-all-lt2
returns-then-all-lt2 c = ends-short _ c.if-all-lt2.true

pub slice_bounds-number-end : goal.slice_bounds-number-end
slice_bounds-number-end c = sym (length-take-le 2 c.args.bytes.now (omega arith))

pub returns-then-all-size : goal.returns-then-all-size
returns-then-all-size c = ends-cut _ (omega arith) c.number-size.ensures c.if-all-size.true

pub returns : goal.returns
returns c = ends_at _ (omega arith) c.number-size.ensures c.if-all-size.false
