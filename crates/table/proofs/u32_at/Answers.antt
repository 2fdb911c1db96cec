-- `table::u32_at` meets its contract: two u16 make a number below 2^32.
-- Assumes nothing.
use native.Mathlib.Omega.{arith}
use Rattle.wire.specs.Table.{u32_at}
use Rattle.table.proofs.u32_at.Goals as goal

pub returns : goal.returns
unfolding u32_at
returns c = omega arith
