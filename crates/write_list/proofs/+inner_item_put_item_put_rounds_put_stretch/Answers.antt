-- The cycle of calls meets its contracts: an item, one with children, the rounds of the stretch that follows it, one round. The node's number falls
-- from an item to those of its stretch.
-- Assumes nothing.
use mathlib.Core.Path.{◌≡◌, refl, sym, ◌∙◌}
use Prim.Native.Nat.{ℕ, ◌+◌, ◌*◌, ◌<◌}
use native.Mathlib.Omega.{arith}
use borrow.Author.Rules.{rules}
use Rattle.wire.specs.Answers.{room_of}
use Rattle.table.proofs.Stretches.{falls-first, falls-next, row-end, rounds-end}
use Rattle.laws.specs.KindRanges.{IsLeaf}
use Rattle.laws.proofs.KindRanges.{is-inner, not-inner}
use Rattle.write_list.proofs.Going.{few_bytes, going-begin, no-going-on, gives_whole, sure-rest, sure-first, first-misfit, first_done, going_end, gives-misfit}
use Rattle.write_list.proofs.Nodes.{node_end, node-number, node-leaf, entered_on, entered-misfit}
use Rattle.write_list.proofs.Rounds.{flattens, flattened-falls, stretch-first, round-first, round-misfit, flat-sure, flat-gives}
use Rattle.write_list.proofs.Fronts.{ready-gives}
use Rattle.write_list.proofs.+inner_item_put_item_put_rounds_put_stretch.Goals as goal

item-inner : (n : ℕ) {t : ℕ} → n * 4 + 3 ≡ t → n * 4 + 2 < t
item-inner n e = omega arith

inner-rounds : (n : ℕ) {t : ℕ} → n * 4 + 2 ≡ t → n * 4 + 1 < t
inner-rounds n e = omega arith

rounds-stretch : (n : ℕ) {t : ℕ} → n * 4 + 1 ≡ t → n * 4 < t
rounds-stretch n e = omega arith

stretch-item : (n : ℕ) {t c m : ℕ} → c ≡ m → m < n → n * 4 ≡ t → c * 4 + 3 < t
stretch-item n q h e = omega arith

pub put_item-first-first-requires : goal.put_item-first-first-requires
put_item-first-first-requires t c = (c.is_ready.ensures.is c.if-is_ready.true).more

pub put_item-put_ready-more-requires : goal.put_item-put_ready-more-requires
put_item-put_ready-more-requires t c = let f = c.is_ready.ensures.is c.if-is_ready.true in record { number_bound = f.low; used_in_bounds = omega (arith, f.wide, c.places-room.ensures.inside) }

pub put_item-overflow_add-next : goal.put_item-overflow_add-next
unfolding room_of
put_item-overflow_add-next t c = omega (arith, (c.is_ready.ensures.is c.if-is_ready.true).more)

pub put_item-returns-then-is_ready : goal.put_item-returns-then-is_ready
put_item-returns-then-is_ready t c = ready-gives c.requires.good_table c.requires.node_lt_nodes c.kind_at-number.ensures (c.is_ready.ensures.is c.if-is_ready.true) c.first-first.ensures c.put_ready-more.ensures _

pub put_item-returns-then-room-at : goal.put_item-returns-then-room-at
unfolding room_of
put_item-returns-then-room-at t c = gives-misfit (node_end c.requires.good_table c.requires.node_lt_nodes _ _ _ (omega arith))

pub put_item-inner_item-requires : goal.put_item-inner_item-requires
unfolding room_of
put_item-inner_item-requires t c = (item-inner _ c.decreases, (c.requires.good_table, (c.requires.node_lt_nodes, (c.kind_at-number.ensures, (is-inner _ (sym c.is_inner.ensures ∙ c.if-is_inner.true), (omega arith, c.requires.sure))))))

pub put_item-returns-then-is_inner : goal.put_item-returns-then-is_inner
put_item-returns-then-is_inner t c = c.inner_item.ensures

pub put_item-leaf_item-requires : goal.put_item-leaf_item-requires
unfolding room_of
put_item-leaf_item-requires t c = let leaf : IsLeaf _ = record {
  small = node-number c.requires.good_table c.requires.node_lt_nodes c.args.pool.now c.args.words.now c.args.at c.kind_at-number.ensures;
  outer = not-inner _ (sym c.is_inner.ensures ∙ c.if-is_inner.false);
} in record { leaf = leaf; at_bound = omega arith; sure = rw (← (node-leaf c.requires.good_table c.requires.node_lt_nodes _ _ _ c.kind_at-number.ensures leaf)) c.requires.sure }

pub put_item-returns : goal.put_item-returns
put_item-returns t c = let leaf : IsLeaf _ = record {
  small = node-number c.requires.good_table c.requires.node_lt_nodes c.args.pool.now c.args.words.now c.args.at c.kind_at-number.ensures;
  outer = not-inner _ (sym c.is_inner.ensures ∙ c.if-is_inner.false);
} in
    rw (node-leaf c.requires.good_table c.requires.node_lt_nodes _ _ _ c.kind_at-number.ensures leaf) c.leaf_item.ensures.0

pub inner_item-overflow_add-next : goal.inner_item-overflow_add-next
unfolding room_of
inner_item-overflow_add-next t c = omega (arith, (entered_on c.enter.ensures c.in-Some.is).more)

pub inner_item-returns-then-to-eq0 : goal.inner_item-returns-then-to-eq0
inner_item-returns-then-to-eq0 t c = going_end (entered_on c.enter.ensures c.in-Some.is).going (rounds-end _ _ _ _ _ _ _ _ (omega arith))

pub inner_item-flat-way-requires : goal.inner_item-flat-way-requires
inner_item-flat-way-requires t c = record { good_table = c.requires.good_table; node_le_nodes = omega (arith, c.requires.node_lt_nodes); falls = (entered_on c.enter.ensures c.in-Some.is).falls }

pub inner_item-put_rounds-requires : goal.inner_item-put_rounds-requires
inner_item-put_rounds-requires t c = let w = flattens c.requires.good_table (omega (arith, c.requires.node_lt_nodes)) c.flat-way.ensures in
    (inner-rounds _ c.decreases, (c.requires.good_table, (omega (arith, c.requires.node_lt_nodes), (flattened-falls w, flat-sure w _ _ _ (sure-rest (few_bytes _ c.well_formed.1.1.1.1.1.1.1.0.1) (entered_on c.enter.ensures c.in-Some.is).going c.requires.sure)))))

pub inner_item-returns-in_default : goal.inner_item-returns-in_default
inner_item-returns-in_default t c = gives-misfit (entered-misfit c.enter.ensures c.in_default.is)

pub inner_item-returns : goal.inner_item-returns
inner_item-returns t c = gives_whole (few_bytes _ c.well_formed.1.1.1.1.1.1.1.0.1) (entered_on c.enter.ensures c.in-Some.is).going (flat-gives (flattens c.requires.good_table (omega (arith, c.requires.node_lt_nodes)) c.flat-way.ensures) _ _ _ c.put_rounds.ensures)

pub put_rounds-returns-in_default : goal.put_rounds-returns-in_default
put_rounds-returns-in_default t c = gives-misfit (no-going-on (few_bytes _ c.well_formed.1.1.1.1.1.1.1.1.1.1.0.1) c.loop-left.invariant.0 (round-misfit _ _ _ _ _ _ _ c.begin.ensures c.loop-left-test.true c.in_default.is))

pub put_rounds-put_stretch-got-requires : goal.put_rounds-put_stretch-got-requires
put_rounds-put_stretch-got-requires t c = (rounds-stretch _ c.decreases, (c.requires.good_table, (c.requires.node_le_nodes, (c.requires.falls, sure-first (few_bytes _ c.well_formed.1.1.1.1.1.1.1.1.1.1.0.1) c.loop-left.invariant.0 (round-first _ _ _ _ _ _ _ c.begin.ensures c.loop-left-test.true c.in-Some.is) c.requires.sure))))

pub put_rounds-returns-in_default-got : goal.put_rounds-returns-in_default-got
put_rounds-returns-in_default-got t c = first-misfit (few_bytes _ c.well_formed.1.1.1.1.1.1.1.1.1.1.0.1) c.loop-left.invariant.0 (round-first _ _ _ _ _ _ _ c.begin.ensures c.loop-left-test.true c.in-Some.is) c.put_stretch-got.ensures c.in_default-got.is

pub put_rounds-loop-left-init : goal.put_rounds-loop-left-init
put_rounds-loop-left-init t c = (going-begin _ _ _ (omega arith), refl)

pub put_rounds-loop-left-preserved : goal.put_rounds-loop-left-preserved
put_rounds-loop-left-preserved t c = (first_done (few_bytes _ c.well_formed.1.1.1.1.1.1.1.1.1.1.0.1) c.loop-left.invariant.0 (round-first _ _ _ _ _ _ _ c.begin.ensures c.loop-left-test.true c.in-Some.is) c.put_stretch-got.ensures c.in-Ok.is, search rules)

pub put_rounds-returns : goal.put_rounds-returns
put_rounds-returns t c = going_end c.loop-left.invariant.0 (rounds-end _ _ _ _ _ _ _ _ c.loop-left-test.false)

pub put_stretch-put_item-got-requires : goal.put_stretch-put_item-got-requires
put_stretch-put_item-got-requires t c = let child = falls-first c.loop-left.invariant.1 c.loop-left-test.true in
    (stretch-item _ c.u16_at-c.ensures.0 child c.decreases, (c.requires.good_table, (omega arith, sure-first (few_bytes _ c.well_formed.1.1.1.1.1.1.1.1.0.1) c.loop-left.invariant.0 (stretch-first _ _ _ _ _ _ c.u16_at-c.ensures.0 c.loop-left-test.true) c.requires.sure)))

pub put_stretch-returns-in_default : goal.put_stretch-returns-in_default
put_stretch-returns-in_default t c = first-misfit (few_bytes _ c.well_formed.1.1.1.1.1.1.1.1.0.1) c.loop-left.invariant.0 (stretch-first _ _ _ _ _ _ c.u16_at-c.ensures.0 c.loop-left-test.true) c.put_item-got.ensures c.in_default.is

pub put_stretch-loop-left-init : goal.put_stretch-loop-left-init
put_stretch-loop-left-init t c = (going-begin _ _ _ (omega arith), c.requires.falls, refl)

pub put_stretch-loop-left-preserved : goal.put_stretch-loop-left-preserved
put_stretch-loop-left-preserved t c = (
  first_done (few_bytes _ c.well_formed.1.1.1.1.1.1.1.1.0.1) c.loop-left.invariant.0 (stretch-first _ _ _ _ _ _ c.u16_at-c.ensures.0 c.loop-left-test.true) c.put_item-got.ensures c.in-Ok.is,
  falls-next c.loop-left.invariant.1 c.loop-left-test.true,
  search rules,
)

pub put_stretch-returns : goal.put_stretch-returns
put_stretch-returns t c = going_end c.loop-left.invariant.0 (row-end _ _ _ _ _ _ c.loop-left-test.false)
