-- `table::chain_at` meets its contract: its children are in front of it, and their chains are kept.
-- Assumes nothing.
use native.Mathlib.Omega.{arith}
use Rattle.wire.specs.Table.{record_of}
use Rattle.table.proofs.Longest.{chain-falls, chain-kept}
use Rattle.table.proofs.chain_at.Goals as goal

pub bounds-table-at : goal.bounds-table-at
unfolding record_of
bounds-table-at c = omega arith

pub overflow_add-at : goal.overflow_add-at
unfolding record_of
overflow_add-at c = omega arith

pub u16_at-a-requires : goal.u16_at-a-requires
unfolding record_of
u16_at-a-requires c = omega arith

pub overflow_add-at-2 : goal.overflow_add-at-2
unfolding record_of
overflow_add-at-2 c = omega arith

pub u16_at-b-requires : goal.u16_at-b-requires
unfolding record_of
u16_at-b-requires c = omega arith

pub children_from-from-requires : goal.children_from-from-requires
unfolding record_of
children_from-from-requires c = omega arith

pub longest_of-longest-requires : goal.longest_of-longest-requires
longest_of-longest-requires c = let p = c.requires in record { falls = chain-falls _ _ _ _ _ _ _ _ p.i_lt_nodes.1 c.u16_at-a.ensures.0 c.u16_at-b.ensures.0 c.children_from-from.ensures c.children_of-count.ensures p.inside p.i_lt_nodes.0 p.i_value; node_in_bounds = p.i_in_bounds }

pub returns : goal.returns
returns c = let p = c.requires in chain-kept _ _ _ _ _ _ _ _ p.i_lt_nodes.1 c.u16_at-a.ensures.0 c.u16_at-b.ensures.0 c.children_from-from.ensures c.children_of-count.ensures _ _ c.longest_of-longest.ensures
