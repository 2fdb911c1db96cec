-- `table::first_child` meets its contract: a good node's record stands in the table.
-- Assumes nothing.
use mathlib.Core.Path.{ap, ◌∙◌}
use native.Mathlib.Omega.{arith}
use Rattle.wire.specs.Table.{record_of, node_at, first_child}
use Rattle.table.proofs.first_child.Goals as goal

pub children_from-requires : goal.children_from-requires
unfolding record_of
children_from-requires c = (omega arith, omega arith)

pub returns : goal.returns
unfolding node_at record_of
returns c = c.children_from.ensures ∙ ap (first_child _ _ _) c.u16_at-a.ensures.0
