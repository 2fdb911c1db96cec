-- `output::add` meets its contract, by whether the sum is below 2^64.
-- Assumes nothing.
use Prim.Native.Nat.{◌+◌, ◌^◌}
use native.Mathlib.Omega.{arith}
use Rattle.laws.proofs.Splits.{by-lt}
use Rattle.output.proofs.Counting.{cap-small, cap-large}
use Rattle.output.proofs.add.Goals as goal

pub returns : goal.returns
returns c = let e = c.saturating_add.ensures in by-lt (c.args.used + c.args.n) (2 ^ 64) (λ h. omega (arith, e, cap-small _ h)) (λ h. omega (arith, e, cap-large _ h))
