-- `singles::eight_single` meets its contract.
-- Assumes nothing.
use mathlib.Core.Path.{ap}
use Prim.Native.Nat.{ℕ}
use lib.Bits.{bit_and}
use lib.Dec.{eqb}
use Rattle.singles.proofs.eight_single.Goals as goal

pub returns : goal.returns
returns c = ap (λ (x : ℕ). eqb (bit_and x 0x8080_8080_8080_8080) 0) c.number-x.ensures
