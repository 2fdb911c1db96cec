-- `table::child_count` meets its contract: a good node's record stands in the table.
-- Assumes nothing.
use mathlib.Core.Path.{ap, ◌∙◌}
use Rattle.wire.specs.Table.{record_of, node_at, child_count}
use Rattle.table.proofs.child_count.Goals as goal

pub returns : goal.returns
unfolding node_at record_of
returns c = c.children_of.ensures ∙ ap (child_count _) c.u16_at-b.ensures.0
