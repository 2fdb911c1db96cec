-- `decoder::without_zero` meets its contract: the high bits that it tests are all set exactly if no byte is zero.
-- Assumes nothing.
use native.Mathlib.Omega.{arith}
use lib.Bits.{and_le_r}
use Rattle.decoder.proofs.Sums.{told-eight}
use Rattle.decoder.proofs.without_zero.Goals as goal

pub overflow_add-sum : goal.overflow_add-sum
overflow_add-sum c = omega (arith, and_le_r c.number-x.result 0x7F7F_7F7F_7F7F_7F7F)

pub returns : goal.returns
returns c = told-eight _ _ (λ i. (c.shared_slice_known-1.given i).fits) c.requires c.number-x.ensures
