-- `table::good_node` meets its contract: a leaf is good, and of any other node the record tells.
-- Assumes nothing.
use mathlib.Core.Path.{sym, ◌∙◌}
use native.Mathlib.Omega.{arith}
use Rattle.wire.specs.Table.{record_of}
use Rattle.table.proofs.Checks.{node-leaf}
use Rattle.table.proofs.good_node.Goals as goal

pub is_leaf-requires : goal.is_leaf-requires
unfolding record_of
is_leaf-requires c = omega arith

pub returns-then-is_leaf : goal.returns-then-is_leaf
returns-then-is_leaf c = node-leaf _ _ _ _ c.requires.i_lt_nodes.1 (sym c.is_leaf.ensures ∙ c.if-is_leaf.true)
