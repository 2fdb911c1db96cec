-- `table::first_ending` meets its contract: the five numbers stand one after the other.
-- Assumes nothing.
use native.Mathlib.Omega.{arith}
use Rattle.wire.specs.Table.{ending_at}
use Rattle.table.proofs.first_ending.Goals as goal

pub returns : goal.returns
unfolding ending_at
returns c = (simp (c.u16_at-mark.ensures.0, c.u16_at-root.ensures.0, c.u16_at-n.ensures.0, c.u16_at-d.ensures.0, c.u16_at-c.ensures.0), omega arith)
