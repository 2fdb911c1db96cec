-- `eights::four` meets its contract: four digits in base 256 are the number of their list.
-- Assumes nothing.
use native.Mathlib.Omega.{arith}
use Prim.Native.Nat.{◌+◌}
use Rattle.eights.proofs.Bytes.{four-number}
use Rattle.eights.proofs.four.Goals as goal

pub overflow_cast-a : goal.overflow_cast-a
overflow_cast-a c = omega (arith, c.shared_slice_known-1.given c.args.at)

pub overflow_cast-b : goal.overflow_cast-b
overflow_cast-b c = omega (arith, c.shared_slice_known-2-1.given (c.args.at + 1))

pub overflow_cast-c : goal.overflow_cast-c
overflow_cast-c c = omega (arith, c.shared_slice_known-3-1.given (c.args.at + 2))

pub overflow_cast-d : goal.overflow_cast-d
overflow_cast-d c = omega (arith, c.shared_slice_known-4-1.given (c.args.at + 3))

pub overflow_mul-result : goal.overflow_mul-result
overflow_mul-result c = omega (arith, c.shared_slice_known-4-1.given (c.args.at + 3))

pub overflow_add-result : goal.overflow_add-result
overflow_add-result c = omega (arith, c.shared_slice_known-4-1.given (c.args.at + 3), c.shared_slice_known-4-1.given (c.args.at + 2))

pub overflow_mul-result-2 : goal.overflow_mul-result-2
overflow_mul-result-2 c = omega (arith, c.shared_slice_known-4-1.given (c.args.at + 3), c.shared_slice_known-4-1.given (c.args.at + 2))

pub overflow_add-result-2 : goal.overflow_add-result-2
overflow_add-result-2 c = omega (arith, c.shared_slice_known-4-1.given (c.args.at + 3), c.shared_slice_known-4-1.given (c.args.at + 2), c.shared_slice_known-4-1.given (c.args.at + 1))

pub overflow_mul-result-3 : goal.overflow_mul-result-3
overflow_mul-result-3 c = omega (arith, c.shared_slice_known-4-1.given (c.args.at + 3), c.shared_slice_known-4-1.given (c.args.at + 2), c.shared_slice_known-4-1.given (c.args.at + 1))

pub overflow_add-result-3 : goal.overflow_add-result-3
overflow_add-result-3 c = omega (arith, c.shared_slice_known-4-1.given (c.args.at + 3), c.shared_slice_known-4-1.given (c.args.at + 2), c.shared_slice_known-4-1.given (c.args.at + 1), c.shared_slice_known-4-1.given c.args.at)

pub returns : goal.returns
returns c = four-number _ _ c.requires
