-- `table::is_inner` meets its contract, by the ranges of the match.
-- Assumes nothing.
use native.Mathlib.Omega.{arith}
use Rattle.laws.proofs.KindRanges.{inner-is, inner-not}
use Rattle.table.proofs.is_inner.Goals as goal

pub returns-in-15-to-19 : goal.returns-in-15-to-19
returns-in-15-to-19 c = inner-is _ (omega arith, omega arith)

pub returns-in_default : goal.returns-in_default
returns-in_default c = inner-not _ (λ h. omega (arith, h.0))

pub returns-in_default-2 : goal.returns-in_default-2
returns-in_default-2 c = inner-not _ (λ h. omega (arith, h.1))
