-- `table::u16_at` meets its contract: two bytes make a number below 65536.
-- Assumes nothing.
use native.Mathlib.Omega.{arith}
use Rattle.wire.specs.Table.{u16_at}
use Rattle.table.proofs.u16_at.Goals as goal

pub returns : goal.returns
unfolding u16_at
returns c = omega arith
