-- A table that passes the check is good: it has few nodes, and no chain of its root is too long.
use Rattle.std.proofs.Common.{sym, ◌∙◌, arith}
use Rattle.laws.proofs.Tables.{good-table, within-limits}
use Rattle.listing.proofs.tree.show.Goals as goal

pub show_node-requires-clause-good_table : goal.show_node-requires-clause-good_table
show_node-requires-clause-good_table g c = good-table _ _ (sym c.check.ensures ∙ c.in-Ok.is)

pub show_node-requires-clause-node_lt_nodes : goal.show_node-requires-clause-node_lt_nodes
show_node-requires-clause-node_lt_nodes g c =
    let told = sym c.check.ensures ∙ c.in-Ok.is in
    ((good-table _ _ told).root_below, (within-limits _ _ told).few-nodes)

pub show_node-requires-clause-node_bound : goal.show_node-requires-clause-node_bound
show_node-requires-clause-node_bound g c =
    let good = good-table _ _ (sym c.check.ensures ∙ c.in-Ok.is) in
    omega (arith, good.short-chains _ good.root_below)
