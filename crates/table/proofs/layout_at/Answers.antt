-- `table::layout_at` meets its contract: neither C nor D is above what stands before the trailer.
-- Assumes nothing.
use mathlib.Core.Path.{refl}
use Rattle.wire.specs.Table.{layout_at}
use Rattle.table.proofs.layout_at.Goals as goal

pub returns : goal.returns
unfolding layout_at
returns c = refl
