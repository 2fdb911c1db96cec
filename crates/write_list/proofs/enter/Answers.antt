-- `write_list::enter` meets its contract, by the laws of an entry of a good table's node.
-- Assumes nothing.
use Rattle.write_list.proofs.Going.{few_bytes}
use Rattle.write_list.proofs.Nodes.{node-has, node-lacks, node-follows, node-inside, node-goes}
use Rattle.write_list.proofs.enter.Goals as goal

pub follow-to-requires : goal.follow-to-requires
follow-to-requires c = let has = node-has c.requires.good_table c.requires.node_lt_nodes _ _ _ c.requires.number_value c.child_count-width.ensures c.requires.at_bound c.first-first.ensures c.second-second.ensures c.requires.sure c.fits_inner-ok.ensures c.if-ok.true in record { width_value = node-follows c.requires.good_table c.requires.node_lt_nodes _ _ _ c.requires.number_value c.child_count-width.ensures c.requires.at_bound c.first-first.ensures c.second-second.ensures has; width_bound = node-inside c.requires.good_table c.requires.node_lt_nodes _ _ _ c.requires.number_value c.child_count-width.ensures c.requires.at_bound c.first-first.ensures c.second-second.ensures has c.first_child-from.ensures (few_bytes _ c.well_formed.0.1) }

pub returns-then-ok : goal.returns-then-ok
returns-then-ok c = let has = node-has c.requires.good_table c.requires.node_lt_nodes _ _ _ c.requires.number_value c.child_count-width.ensures c.requires.at_bound c.first-first.ensures c.second-second.ensures c.requires.sure c.fits_inner-ok.ensures c.if-ok.true in
    record { holds = node-goes c.requires.good_table c.requires.node_lt_nodes _ _ _ c.requires.number_value c.child_count-width.ensures c.requires.at_bound c.first-first.ensures c.second-second.ensures has c.first_child-from.ensures (c.put_inner-more.ensures.with _ _) c.follow-to.ensures }

pub returns : goal.returns
returns c = record { holds = node-lacks c.requires.good_table c.requires.node_lt_nodes _ _ _ c.requires.number_value c.child_count-width.ensures c.requires.at_bound c.first-first.ensures c.second-second.ensures c.requires.sure c.fits_inner-ok.ensures c.if-ok.false }
