-- `compare_item::is_pooled` meets its contract, by the ranges of the match.
-- Assumes nothing.
use native.Mathlib.Omega.{arith}
use Rattle.compare_item.proofs.Leaves.{pooled-is, pooled-not}
use Rattle.compare_item.proofs.is_pooled.Goals as goal

pub returns-in-12-to-13 : goal.returns-in-12-to-13
returns-in-12-to-13 c = pooled-is _ (omega arith) (omega arith)

pub returns-in_default : goal.returns-in_default
returns-in_default c = pooled-not _ (λ h. omega (arith, h.0))

pub returns-in_default-2 : goal.returns-in_default-2
returns-in_default-2 c = pooled-not _ (λ h. omega (arith, h.1))
