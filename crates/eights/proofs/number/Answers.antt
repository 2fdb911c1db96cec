-- `eights::number` meets its contract: two numbers of four bytes are the number of eight.
-- Assumes nothing.
use Prim.Native.Nat.{◌+◌}
use native.Mathlib.Omega.{arith}
use Rattle.eights.proofs.Bytes.{four-lt, both-number}
use Rattle.eights.proofs.number.Goals as goal

pub overflow_mul-result : goal.overflow_mul-result
overflow_mul-result c = omega (arith, four-lt c.args.s.now (c.args.at + 4) c.four-high.ensures (λ i. (c.shared_slice_known-1.given i).fits) (omega arith))

pub overflow_add-result : goal.overflow_add-result
overflow_add-result c =
    omega (
      arith,
      four-lt c.args.s.now c.args.at c.four-low.ensures (λ i. (c.shared_slice_known-1.given i).fits) (omega arith),
      four-lt c.args.s.now (c.args.at + 4) c.four-high.ensures (λ i. (c.shared_slice_known-1.given i).fits) (omega arith),
    )

pub returns : goal.returns
returns c = both-number _ _ c.requires c.four-low.ensures c.four-high.ensures
