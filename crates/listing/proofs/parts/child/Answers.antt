-- A good table's children stand in it, are below their parent, and have shorter chains.
use Rattle.laws.proofs.Tables.{child-shorter}
use Rattle.table.proofs.Stretches.{node-falls}
use Rattle.listing.proofs.parts.child.Goals as goal

pub returns : goal.returns
returns c =
    let pre = c.requires in
    rw (c.u16_at.ensures.0, c.first_child-from.ensures) ((node-falls pre.good_table pre.node_lt_nodes).below _ pre.k_bound, child-shorter pre.good_table pre.node_lt_nodes _ pre.k_bound)
