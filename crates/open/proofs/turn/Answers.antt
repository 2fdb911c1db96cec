-- `open::turn` meets its contract: the leaves are read, and then the item has a next child, a next round or no more.
-- Assumes nothing.
use mathlib.Core.Path.{refl, sym, ◌∙◌}
use mathlib.Core.List.{◌∷◌}
use Prim.Native.Nat.{◌-◌}
use native.Mathlib.Omega.{arith}
use Rattle.laws.proofs.Answers.{handed-up}
use Rattle.laws.proofs.Bounds.{head-by-sound}
use Rattle.laws.proofs.Parts.{tail, length-tail}
use Rattle.open.specs.Items.{helds_of, Chain}
use Rattle.open.proofs.Chains.{chain-falls, chain_left, chain-fewer}
use Rattle.open.proofs.Holding.{last-room, last-chain, held-room}
use Rattle.open.proofs.Leading.{falls-last}
use Rattle.open.proofs.Turning.{last-works, leads-refused, leads-on, inward-child, passed-works, rounds-leaving, round-works, close-works}
use Rattle.open.proofs.turn.Goals as goal

pub held_at-top-requires : goal.held_at-top-requires
held_at-top-requires c = let p = c.requires in last-room _ _ p.depth_nonzero p.chain p.list_len

pub overflow_sub-child : goal.overflow_sub-child
overflow_sub-child c = chain_left (let top : Chain c.args.table.now c.args.l 1 (c.held_at-top.result ∷ helds_of c.args.list.now (c.args.depth - 1)) = let p = c.requires in last-chain _ _ p.depth_nonzero p.chain c.held_at-top.ensures in top)

pub overflow_mul-child : goal.overflow_mul-child
overflow_mul-child c = omega (arith, (chain-falls (let top : Chain c.args.table.now c.args.l 1 (c.held_at-top.result ∷ helds_of c.args.list.now (c.args.depth - 1)) = let p = c.requires in last-chain _ _ p.depth_nonzero p.chain c.held_at-top.ensures in top)).inside, c.well_formed.1.0)

pub overflow_add-child : goal.overflow_add-child
overflow_add-child c = omega (arith, (chain-falls (let top : Chain c.args.table.now c.args.l 1 (c.held_at-top.result ∷ helds_of c.args.list.now (c.args.depth - 1)) = let p = c.requires in last-chain _ _ p.depth_nonzero p.chain c.held_at-top.ensures in top)).inside, chain_left (let top : Chain c.args.table.now c.args.l 1 (c.held_at-top.result ∷ helds_of c.args.list.now (c.args.depth - 1)) = let p = c.requires in last-chain _ _ p.depth_nonzero p.chain c.held_at-top.ensures in top), c.well_formed.1.0)

pub read_leaves-requires : goal.read_leaves-requires
read_leaves-requires c = let p = c.requires in record { good_table = p.good_table; falls = falls-last (chain-falls (let top : Chain c.args.table.now c.args.l 1 (c.held_at-top.result ∷ helds_of c.args.list.now (c.args.depth - 1)) = let p = c.requires in last-chain _ _ p.depth_nonzero p.chain c.held_at-top.ensures in top)) _ (chain_left (let top : Chain c.args.table.now c.args.l 1 (c.held_at-top.result ∷ helds_of c.args.list.now (c.args.depth - 1)) = let p = c.requires in last-chain _ _ p.depth_nonzero p.chain c.held_at-top.ensures in top)); part_bound = p.part_bound }

pub returns-in_err-left : goal.returns-in_err-left
returns-in_err-left c = rw (handed-up c.from_residual.ensures ∙ sym c.in_err-left.was) (last-works _ _ c.requires.depth_nonzero c.held_at-top.ensures _ _ _ _ (leads-refused _ _ _ _ _ _ c.read_leaves.ensures c.in_err-left.was))

pub overflow_sub-used : goal.overflow_sub-used
overflow_sub-used c = (leads-on c.read_leaves.ensures c.in_ok-left.was).0.up

pub slice_bounds-next_child-count : goal.slice_bounds-next_child-count
slice_bounds-next_child-count c = (leads-on c.read_leaves.ensures c.in_ok-left.was).0.inside

pub slice_bounds-next_child-start : goal.slice_bounds-next_child-start
slice_bounds-next_child-start c = (leads-on c.read_leaves.ensures c.in_ok-left.was).0.inside

pub next_child-requires : goal.next_child-requires
next_child-requires c = let p = c.requires in
    let along = leads-on c.read_leaves.ensures c.in_ok-left.was in
    let inner = inward-child c.held_at-top.result (chain_left (let top : Chain c.args.table.now c.args.l 1 (c.held_at-top.result ∷ helds_of c.args.list.now (c.args.depth - 1)) = let p = c.requires in last-chain _ _ p.depth_nonzero p.chain c.held_at-top.ensures in top)) along.0.fewer along.1 c.if-left-gt0.true in record { good_table = p.good_table; part_bound = omega (arith, p.part_bound, along.0.up, along.0.inside, length-tail c.args.part.now (c.in_ok-left.field-0.place - c.args.place)); made_lt_room = inner.0; left_nonzero = c.if-left-gt0.true; inner = inner.1; list_len = p.list_len; chain = chain-fewer (let top : Chain c.args.table.now c.args.l 1 (c.held_at-top.result ∷ helds_of c.args.list.now (c.args.depth - 1)) = let p = c.requires in last-chain _ _ p.depth_nonzero p.chain c.held_at-top.ensures in top) along.0.fewer }

pub returns-then-left-gt0 : goal.returns-then-left-gt0
returns-then-left-gt0 c = let along = leads-on c.read_leaves.ensures c.in_ok-left.was in
    last-works _ _ c.requires.depth_nonzero c.held_at-top.ensures _ _ _ _ (passed-works _ _ _ _ _ _ along.0 (chain_left (let top : Chain c.args.table.now c.args.l 1 (c.held_at-top.result ∷ helds_of c.args.list.now (c.args.depth - 1)) = let p = c.requires in last-chain _ _ p.depth_nonzero p.chain c.held_at-top.ensures in top)) (tail c.args.part.now (c.in_ok-left.field-0.place - c.args.place)) c.next_child.ensures)

pub next_round-requires : goal.next_round-requires
next_round-requires c = record { i_in_bounds = held-room _ _ (let top : Chain c.args.table.now c.args.l 1 (c.held_at-top.result ∷ helds_of c.args.list.now (c.args.depth - 1)) = let p = c.requires in last-chain _ _ p.depth_nonzero p.chain c.held_at-top.ensures in top) c.requires.list_len; width_bound = omega (arith, (chain-falls (let top : Chain c.args.table.now c.args.l 1 (c.held_at-top.result ∷ helds_of c.args.list.now (c.args.depth - 1)) = let p = c.requires in last-chain _ _ p.depth_nonzero p.chain c.held_at-top.ensures in top)).inside, c.well_formed.1.0); rounds_nonzero = omega (arith, c.if-top-gt0.true) }

pub returns-then-top-gt0 : goal.returns-then-top-gt0
returns-then-top-gt0 c = let along = leads-on c.read_leaves.ensures c.in_ok-left.was in
    let chain = chain-fewer (let top : Chain c.args.table.now c.args.l 1 (c.held_at-top.result ∷ helds_of c.args.list.now (c.args.depth - 1)) = let p = c.requires in last-chain _ _ p.depth_nonzero p.chain c.held_at-top.ensures in top) along.0.fewer in
    last-works _ _ c.requires.depth_nonzero c.held_at-top.ensures _ _ _ _
    (passed-works _ _ _ _ _ _ along.0 (chain_left (let top : Chain c.args.table.now c.args.l 1 (c.held_at-top.result ∷ helds_of c.args.list.now (c.args.depth - 1)) = let p = c.requires in last-chain _ _ p.depth_nonzero p.chain c.held_at-top.ensures in top)) refl (round-works _ _ _ _ _ _ _ c.if-left-gt0.false chain (head-by-sound _) (omega (arith, c.if-top-gt0.true)) (held-room _ _ (let top : Chain c.args.table.now c.args.l 1 (c.held_at-top.result ∷ helds_of c.args.list.now (c.args.depth - 1)) = let p = c.requires in last-chain _ _ p.depth_nonzero p.chain c.held_at-top.ensures in top) c.requires.list_len) (rounds-leaving _ c.next_round.ensures)))

pub returns : goal.returns
returns c = let along = leads-on c.read_leaves.ensures c.in_ok-left.was in
    let chain = chain-fewer (let top : Chain c.args.table.now c.args.l 1 (c.held_at-top.result ∷ helds_of c.args.list.now (c.args.depth - 1)) = let p = c.requires in last-chain _ _ p.depth_nonzero p.chain c.held_at-top.ensures in top) along.0.fewer in
    last-works _ _ c.requires.depth_nonzero c.held_at-top.ensures _ _ _ _ (passed-works _ _ _ _ _ _ along.0 (chain_left (let top : Chain c.args.table.now c.args.l 1 (c.held_at-top.result ∷ helds_of c.args.list.now (c.args.depth - 1)) = let p = c.requires in last-chain _ _ p.depth_nonzero p.chain c.held_at-top.ensures in top)) refl (close-works _ _ _ _ _ _ _ c.if-left-gt0.false chain (omega (arith, c.if-top-gt0.false))))
