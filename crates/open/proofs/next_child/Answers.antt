-- `open::next_child` meets its contract: the item is held without its next child, which is opened above it.
-- Assumes nothing.
use mathlib.Core.Path.{◌∙◌}
use native.Mathlib.Omega.{arith}
use Rattle.open.proofs.Chains.{chain-falls, chain_left}
use Rattle.open.proofs.Holding.{held-room, child-node, child-chain}
use Rattle.open.proofs.Turning.{child-works}
use Rattle.open.proofs.next_child.Goals as goal

pub overflow_sub-child : goal.overflow_sub-child
overflow_sub-child c = chain_left c.requires.chain

pub overflow_mul-child : goal.overflow_mul-child
overflow_mul-child c = let p = c.requires in omega (arith, (chain-falls p.chain).inside, chain_left p.chain, c.well_formed.1.0)

pub overflow_add-child : goal.overflow_add-child
overflow_add-child c = let p = c.requires in omega (arith, (chain-falls p.chain).inside, chain_left p.chain, c.well_formed.1.0)

pub u16_at-c-requires : goal.u16_at-c-requires
u16_at-c-requires c = let p = c.requires in omega (arith, (chain-falls p.chain).inside, chain_left p.chain, p.left_nonzero)

pub hold-requires : goal.hold-requires
hold-requires c = let p = c.requires in record { i_in_bounds = held-room _ _ p.chain p.list_len; width_bound = omega (arith, (chain-falls p.chain).inside, c.well_formed.1.0) }

pub overflow_add-depth : goal.overflow_add-depth
overflow_add-depth c = let p = c.requires in omega (arith, held-room _ _ p.chain p.list_len, p.list_len)

pub open_item-requires : goal.open_item-requires
open_item-requires c = let p = c.requires in
    let is = c.u16_at-c.ensures.0 in record { good_table = p.good_table; node_lt_nodes = child-node _ _ p.chain p.left_nonzero is; inner = rw is p.inner; part_bound = p.part_bound; made_lt_room = p.made_lt_room; list_len = c.list-1.given ∙ p.list_len; chain = child-chain _ _ p.chain p.left_nonzero is p.list_len c.hold.ensures }

pub returns : goal.returns
returns c = let p = c.requires in child-works _ _ p.chain _ _ _ _ p.left_nonzero _ c.u16_at-c.ensures.0 p.list_len c.hold.ensures c.open_item.ensures
