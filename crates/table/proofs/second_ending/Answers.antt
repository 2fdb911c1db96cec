-- `table::second_ending` meets its contract: C and D take four bytes each, and the others two.
-- Assumes nothing.
use native.Mathlib.Omega.{arith}
use Rattle.wire.specs.Table.{ending_at}
use Rattle.table.proofs.second_ending.Goals as goal

pub returns : goal.returns
unfolding ending_at
returns c = (simp (c.u16_at-mark.ensures.0, c.u16_at-root.ensures.0, c.u16_at-n.ensures.0, c.u32_at-d.ensures.0, c.u32_at-c.ensures.0), omega arith)
