-- The cycle of calls: an item, one with children, the rounds of the stretch that follows it, one round. The node's number falls from an item to those of its stretch.
-- Assumes nothing.
use mathlib.Core.Path.{sym, ◌∙◌}
use Prim.Native.Nat.{◌+◌, ◌*◌, ◌<◌}
use native.Mathlib.Omega.{arith}
use Rattle.laws.proofs.KindRanges.{is-inner, not-inner}
use Rattle.laws.proofs.Parts.{length-tail}
use Rattle.table.proofs.Stretches.{falls-first, falls-next, flat-falls}
use Rattle.read_item.proofs.Entering.{number_small}
use Rattle.compare_walk.proofs.Laying.{gives-stopped}
use Rattle.compare_walk.proofs.Turns.{node_kept, row_kept, turn-apart, turned, row_done, row-turn, rounds-done, rounds-turn}
use Rattle.compare_walk.proofs.Rounds.{one-over, begun-full, begun-at, begun-few}
use Rattle.compare_walk.proofs.Items.{item-full, entered-unread, entered_on, one_inside, other-inside, one-falls, other-falls, goes_on, goes-apart, leaf-unread, leaf-inside, leaf-same, leaf-differs}
use Rattle.compare_walk.proofs.+walk_inner_walk_item_walk_rounds_walk_stretch.Goals as goal

pub walk_inner-enter-requires : goal.walk_inner-enter-requires
walk_inner-enter-requires t c = let p = c.requires in record { good_table = p.good_table; node_lt_nodes = p.node_lt_nodes; inner = p.inner }

pub walk_inner-returns-in_err-inside : goal.walk_inner-returns-in_err-inside
walk_inner-returns-in_err-inside t c = let p = c.requires in
    rw c.from_residual.ensures (gives-stopped (entered-unread p.good_table p.node_lt_nodes _ _ _ _ _ _ _ c.enter.ensures c.in_err-inside.was))

pub walk_inner-overflow_add-next : goal.walk_inner-overflow_add-next
walk_inner-overflow_add-next t c = let p = c.requires in
    omega (arith, one_inside p.good_table p.node_lt_nodes _ _ (entered_on p.good_table p.node_lt_nodes _ _ c.enter.ensures c.in_ok-inside.was), p.part_bound)

pub walk_inner-overflow_add-next-2 : goal.walk_inner-overflow_add-next-2
walk_inner-overflow_add-next-2 t c = let p = c.requires in
    omega (arith, other-inside p.good_table p.node_lt_nodes _ _ (entered_on p.good_table p.node_lt_nodes _ _ c.enter.ensures c.in_ok-inside.was), p.other_bound)

pub walk_inner-overflow_add-next-3 : goal.walk_inner-overflow_add-next-3
walk_inner-overflow_add-next-3 t c = omega (arith, c.requires.ones_lt_most_entries.0)

pub walk_inner-overflow_add-next-4 : goal.walk_inner-overflow_add-next-4
walk_inner-overflow_add-next-4 t c = omega (arith, c.requires.ones_lt_most_entries.1)

pub walk_inner-overflow_add-next-5 : goal.walk_inner-overflow_add-next-5
walk_inner-overflow_add-next-5 t c = let p = c.requires in omega (arith, p.count_le_ones, p.ones_lt_most_entries.0)

pub walk_inner-flat-way-requires : goal.walk_inner-flat-way-requires
walk_inner-flat-way-requires t c = let p = c.requires in record { good_table = p.good_table; node_le_nodes = omega (arith, p.node_lt_nodes); falls = one-falls p.good_table p.node_lt_nodes _ _ (entered_on p.good_table p.node_lt_nodes _ _ c.enter.ensures c.in_ok-inside.was) }

pub walk_inner-slice_bounds-walk_rounds-count : goal.walk_inner-slice_bounds-walk_rounds-count
walk_inner-slice_bounds-walk_rounds-count t c = let p = c.requires in one_inside p.good_table p.node_lt_nodes _ _ (entered_on p.good_table p.node_lt_nodes _ _ c.enter.ensures c.in_ok-inside.was)

pub walk_inner-slice_bounds-walk_rounds-start : goal.walk_inner-slice_bounds-walk_rounds-start
walk_inner-slice_bounds-walk_rounds-start t c = let p = c.requires in one_inside p.good_table p.node_lt_nodes _ _ (entered_on p.good_table p.node_lt_nodes _ _ c.enter.ensures c.in_ok-inside.was)

pub walk_inner-slice_bounds-walk_rounds-count-then-inside : goal.walk_inner-slice_bounds-walk_rounds-count-then-inside
walk_inner-slice_bounds-walk_rounds-count-then-inside t c = let p = c.requires in other-inside p.good_table p.node_lt_nodes _ _ (entered_on p.good_table p.node_lt_nodes _ _ c.enter.ensures c.in_ok-inside.was)

pub walk_inner-slice_bounds-walk_rounds-start-then-inside : goal.walk_inner-slice_bounds-walk_rounds-start-then-inside
walk_inner-slice_bounds-walk_rounds-start-then-inside t c = let p = c.requires in other-inside p.good_table p.node_lt_nodes _ _ (entered_on p.good_table p.node_lt_nodes _ _ c.enter.ensures c.in_ok-inside.was)

pub walk_inner-slice_bounds-pass-count : goal.walk_inner-slice_bounds-pass-count
walk_inner-slice_bounds-pass-count t c = let p = c.requires in one_inside p.good_table p.node_lt_nodes _ _ (entered_on p.good_table p.node_lt_nodes _ _ c.enter.ensures c.in_ok-inside.was)

pub walk_inner-slice_bounds-pass-start : goal.walk_inner-slice_bounds-pass-start
walk_inner-slice_bounds-pass-start t c = let p = c.requires in one_inside p.good_table p.node_lt_nodes _ _ (entered_on p.good_table p.node_lt_nodes _ _ c.enter.ensures c.in_ok-inside.was)

pub walk_inner-slice_bounds-pass-count-2 : goal.walk_inner-slice_bounds-pass-count-2
walk_inner-slice_bounds-pass-count-2 t c = let p = c.requires in other-inside p.good_table p.node_lt_nodes _ _ (entered_on p.good_table p.node_lt_nodes _ _ c.enter.ensures c.in_ok-inside.was)

pub walk_inner-slice_bounds-pass-start-2 : goal.walk_inner-slice_bounds-pass-start-2
walk_inner-slice_bounds-pass-start-2 t c = let p = c.requires in other-inside p.good_table p.node_lt_nodes _ _ (entered_on p.good_table p.node_lt_nodes _ _ c.enter.ensures c.in_ok-inside.was)

pub walk_inner-walk_rounds-requires : goal.walk_inner-walk_rounds-requires
walk_inner-walk_rounds-requires t c = let p = c.requires in
    let e = entered_on p.good_table p.node_lt_nodes _ _ c.enter.ensures c.in_ok-inside.was in
    let low : c.args.node * 4 + 1 < c.args.node * 4 + 2 = omega arith in (
      rw c.decreases at low,
      (
        p.good_table,
        (
          omega (arith, p.node_lt_nodes),
          (
            flat-falls p.good_table (omega (arith, p.node_lt_nodes)) c.flat-way.ensures,
            (
              omega (arith, one_inside p.good_table p.node_lt_nodes _ _ e, p.part_bound, length-tail c.args.part.now c.in_ok-inside.inside.used),
              (omega (arith, other-inside p.good_table p.node_lt_nodes _ _ e, p.other_bound, length-tail c.args.other.now c.in_ok-inside.inside.other), omega (arith, p.count_le_ones)),
            ),
          ),
        ),
      ),
    )

pub walk_inner-returns-then-inside : goal.walk_inner-returns-then-inside
walk_inner-returns-then-inside t c = let p = c.requires in
    goes_on p.good_table p.node_lt_nodes _ _ (entered_on p.good_table p.node_lt_nodes _ _ c.enter.ensures c.in_ok-inside.was) _ _ _ _ _ p.ones_lt_most_entries.0 p.ones_lt_most_entries.1 p.inner.kind p.inner.inner
    c.if-inside.true c.flat-way.ensures c.walk_rounds.ensures

pub walk_inner-pass-requires : goal.walk_inner-pass-requires
walk_inner-pass-requires t c = let p = c.requires in
    let e = entered_on p.good_table p.node_lt_nodes _ _ c.enter.ensures c.in_ok-inside.was in
    record {
      good_table = p.good_table;
      node_le_nodes = omega (arith, p.node_lt_nodes);
      falls = one-falls p.good_table p.node_lt_nodes _ _ e;
      falls_2 = other-falls p.good_table p.node_lt_nodes _ _ e;
      part_bound = omega (arith, one_inside p.good_table p.node_lt_nodes _ _ e, p.part_bound, length-tail c.args.part.now c.in_ok-inside.inside.used);
      other_bound = omega (arith, other-inside p.good_table p.node_lt_nodes _ _ e, p.other_bound, length-tail c.args.other.now c.in_ok-inside.inside.other);
    }

pub walk_inner-returns : goal.walk_inner-returns
walk_inner-returns t c = let p = c.requires in
    goes-apart p.good_table p.node_lt_nodes _ _ (entered_on p.good_table p.node_lt_nodes _ _ c.enter.ensures c.in_ok-inside.was) _ _ _ _ _ p.ones_lt_most_entries.0 p.ones_lt_most_entries.1 p.inner.kind p.inner.inner
    c.if-inside.false c.put.ensures c.pass.ensures

pub walk_item-returns-then-at-ge-ROOM : goal.walk_item-returns-then-at-ge-ROOM
walk_item-returns-then-at-ge-ROOM t c = let p = c.requires in gives-stopped (item-full p.good_table p.node_lt_nodes _ _ _ _ _ _ _ (λ a b. one-over a b c.then-at-ge-ROOM.either))

pub walk_item-walk_inner-requires : goal.walk_item-walk_inner-requires
walk_item-walk_inner-requires t c = let p = c.requires in
    let low : c.args.node * 4 + 2 < c.args.node * 4 + 3 = omega arith in
    let inner = is-inner _ (sym c.is_inner.ensures ∙ c.if-is_inner.true) in
    (rw c.decreases at low, (p.good_table, (p.node_lt_nodes, (record { kind = c.kind_at-number.ensures; inner = inner }, ((omega arith, omega arith), (p.part_bound, (p.other_bound, p.count_le_ones)))))))

pub walk_item-take_leaf-requires : goal.walk_item-take_leaf-requires
walk_item-take_leaf-requires t c = let p = c.requires in record { leaf = record { small = number_small p.good_table p.node_lt_nodes _ c.kind_at-number.ensures; outer = not-inner _ (sym c.is_inner.ensures ∙ c.if-is_inner.false) }; part_bound = p.part_bound; other_bound = p.other_bound }

pub walk_item-returns-in_err-taken : goal.walk_item-returns-in_err-taken
walk_item-returns-in_err-taken t c = let p = c.requires in
    rw c.from_residual.ensures
    (gives-stopped (leaf-unread p.good_table p.node_lt_nodes _ _ _ _ c.kind_at-number.ensures (not-inner _ (sym c.is_inner.ensures ∙ c.if-is_inner.false)) _ _ _ _ _ c.take_leaf.ensures c.in_err-taken.was))

pub walk_item-overflow_add-one : goal.walk_item-overflow_add-one
walk_item-overflow_add-one t c = let p = c.requires in
    omega (arith, (leaf-inside p.good_table p.node_lt_nodes _ _ _ _ c.kind_at-number.ensures (not-inner _ (sym c.is_inner.ensures ∙ c.if-is_inner.false)) c.take_leaf.ensures c.in_ok-taken.was).0, p.part_bound)

pub walk_item-overflow_add-beyond : goal.walk_item-overflow_add-beyond
walk_item-overflow_add-beyond t c = let p = c.requires in
    omega (arith, (leaf-inside p.good_table p.node_lt_nodes _ _ _ _ c.kind_at-number.ensures (not-inner _ (sym c.is_inner.ensures ∙ c.if-is_inner.false)) c.take_leaf.ensures c.in_ok-taken.was).1, p.other_bound)

pub walk_item-returns-then-taken : goal.walk_item-returns-then-taken
walk_item-returns-then-taken t c = let p = c.requires in
    leaf-same p.good_table p.node_lt_nodes _ _ _ _ c.kind_at-number.ensures (not-inner _ (sym c.is_inner.ensures ∙ c.if-is_inner.false)) _ _ _ _ _ c.take_leaf.ensures (omega arith) (omega arith) c.in_ok-taken.was c.if-taken.true

pub walk_item-overflow_add-result : goal.walk_item-overflow_add-result
walk_item-overflow_add-result t c = omega (arith, c.requires.count_le_ones)

pub walk_item-returns : goal.walk_item-returns
walk_item-returns t c = let p = c.requires in
    leaf-differs p.good_table p.node_lt_nodes _ _ _ _ c.kind_at-number.ensures (not-inner _ (sym c.is_inner.ensures ∙ c.if-is_inner.false)) _ _ _ _ _ c.take_leaf.ensures (omega arith) (omega arith) c.in_ok-taken.was c.if-taken.false c.put.ensures

pub walk_rounds-returns-in_err-heads : goal.walk_rounds-returns-in_err-heads
walk_rounds-returns-in_err-heads t c =
    rw c.from_residual.ensures (begun-full _ _ _ _ _ _ _ _ _ _ _ c.begin.ensures (rounds-turn _ _ _ _ _ _ _ _ _ _ _ _ _ _ c.loop-turns.invariant.0 c.loop-turns-test.true) c.in_err-heads.was)

pub walk_rounds-walk_stretch-requires : goal.walk_rounds-walk_stretch-requires
walk_rounds-walk_stretch-requires t c = let p = c.requires in
    (omega arith, (p.good_table, (p.node_le_nodes, (p.falls, (omega arith, (omega arith, begun-few c.begin.ensures c.in_ok-heads.was c.loop-turns.invariant.3))))))

pub walk_rounds-returns-in_err-gone : goal.walk_rounds-returns-in_err-gone
walk_rounds-returns-in_err-gone t c =
    rw c.from_residual-in_err-gone.ensures
    (turn-apart _ _ _ (row_kept _ _ _ _) _ _ _ _ _ _ _ _ _
    (begun-at _ _ _ _ _ _ _ _ _ _ _ c.begin.ensures (rounds-turn _ _ _ _ _ _ _ _ _ _ _ _ _ _ c.loop-turns.invariant.0 c.loop-turns-test.true) c.in_ok-heads.was)
    c.walk_stretch.ensures c.in_err-gone.was)

pub walk_rounds-overflow_sub-used : goal.walk_rounds-overflow_sub-used
walk_rounds-overflow_sub-used t c =
    let gone = turned _ _ _ (row_kept _ _ _ _) _ _ _ _ _ _ _ _ _
    (begun-at _ _ _ _ _ _ _ _ _ _ _ c.begin.ensures (rounds-turn _ _ _ _ _ _ _ _ _ _ _ _ _ _ c.loop-turns.invariant.0 c.loop-turns-test.true) c.in_ok-heads.was)
    c.walk_stretch.ensures (begun-few c.begin.ensures c.in_ok-heads.was c.loop-turns.invariant.3) c.in_ok-gone.was in
    gone.0.one.up

pub walk_rounds-slice_bounds-rest-count : goal.walk_rounds-slice_bounds-rest-count
walk_rounds-slice_bounds-rest-count t c =
    let gone = turned _ _ _ (row_kept _ _ _ _) _ _ _ _ _ _ _ _ _
    (begun-at _ _ _ _ _ _ _ _ _ _ _ c.begin.ensures (rounds-turn _ _ _ _ _ _ _ _ _ _ _ _ _ _ c.loop-turns.invariant.0 c.loop-turns-test.true) c.in_ok-heads.was)
    c.walk_stretch.ensures (begun-few c.begin.ensures c.in_ok-heads.was c.loop-turns.invariant.3) c.in_ok-gone.was in
    gone.0.one.inside

pub walk_rounds-slice_bounds-rest-start : goal.walk_rounds-slice_bounds-rest-start
walk_rounds-slice_bounds-rest-start t c =
    let gone = turned _ _ _ (row_kept _ _ _ _) _ _ _ _ _ _ _ _ _
    (begun-at _ _ _ _ _ _ _ _ _ _ _ c.begin.ensures (rounds-turn _ _ _ _ _ _ _ _ _ _ _ _ _ _ c.loop-turns.invariant.0 c.loop-turns-test.true) c.in_ok-heads.was)
    c.walk_stretch.ensures (begun-few c.begin.ensures c.in_ok-heads.was c.loop-turns.invariant.3) c.in_ok-gone.was in
    gone.0.one.inside

pub walk_rounds-overflow_sub-past : goal.walk_rounds-overflow_sub-past
walk_rounds-overflow_sub-past t c =
    let gone = turned _ _ _ (row_kept _ _ _ _) _ _ _ _ _ _ _ _ _
    (begun-at _ _ _ _ _ _ _ _ _ _ _ c.begin.ensures (rounds-turn _ _ _ _ _ _ _ _ _ _ _ _ _ _ c.loop-turns.invariant.0 c.loop-turns-test.true) c.in_ok-heads.was)
    c.walk_stretch.ensures (begun-few c.begin.ensures c.in_ok-heads.was c.loop-turns.invariant.3) c.in_ok-gone.was in
    gone.0.other.up

pub walk_rounds-slice_bounds-left-count : goal.walk_rounds-slice_bounds-left-count
walk_rounds-slice_bounds-left-count t c =
    let gone = turned _ _ _ (row_kept _ _ _ _) _ _ _ _ _ _ _ _ _
    (begun-at _ _ _ _ _ _ _ _ _ _ _ c.begin.ensures (rounds-turn _ _ _ _ _ _ _ _ _ _ _ _ _ _ c.loop-turns.invariant.0 c.loop-turns-test.true) c.in_ok-heads.was)
    c.walk_stretch.ensures (begun-few c.begin.ensures c.in_ok-heads.was c.loop-turns.invariant.3) c.in_ok-gone.was in
    gone.0.other.inside

pub walk_rounds-slice_bounds-left-start : goal.walk_rounds-slice_bounds-left-start
walk_rounds-slice_bounds-left-start t c =
    let gone = turned _ _ _ (row_kept _ _ _ _) _ _ _ _ _ _ _ _ _
    (begun-at _ _ _ _ _ _ _ _ _ _ _ c.begin.ensures (rounds-turn _ _ _ _ _ _ _ _ _ _ _ _ _ _ c.loop-turns.invariant.0 c.loop-turns-test.true) c.in_ok-heads.was)
    c.walk_stretch.ensures (begun-few c.begin.ensures c.in_ok-heads.was c.loop-turns.invariant.3) c.in_ok-gone.was in
    gone.0.other.inside

pub walk_rounds-loop-turns-preserved : goal.walk_rounds-loop-turns-preserved
walk_rounds-loop-turns-preserved t c =
    let gone = turned _ _ _ (row_kept _ _ _ _) _ _ _ _ _ _ _ _ _
    (begun-at _ _ _ _ _ _ _ _ _ _ _ c.begin.ensures (rounds-turn _ _ _ _ _ _ _ _ _ _ _ _ _ _ c.loop-turns.invariant.0 c.loop-turns-test.true) c.in_ok-heads.was)
    c.walk_stretch.ensures (begun-few c.begin.ensures c.in_ok-heads.was c.loop-turns.invariant.3) c.in_ok-gone.was in
    (gone.1, gone.0.one.kept ∙ c.loop-turns.invariant.1, gone.0.other.kept ∙ c.loop-turns.invariant.2, gone.0.few, c.walk_stretch.auto.list ∙ c.loop-turns.invariant.4)

pub walk_rounds-returns : goal.walk_rounds-returns
walk_rounds-returns t c = rounds-done _ _ _ _ _ _ _ _ _ _ _ _ _ _ c.loop-turns.invariant.0 c.loop-turns-test.false

pub walk_stretch-walk_item-requires : goal.walk_stretch-walk_item-requires
walk_stretch-walk_item-requires t c = let p = c.requires in
    let f = falls-first c.loop-turns.invariant.1 c.loop-turns-test.true in
    (omega arith, (p.good_table, (omega arith, (omega arith, (omega arith, c.loop-turns.invariant.4)))))

pub walk_stretch-returns-in_err-gone : goal.walk_stretch-returns-in_err-gone
walk_stretch-returns-in_err-gone t c =
    rw c.from_residual.ensures
    (turn-apart _ _ _ (node_kept _ _ _) _ _ _ _ _ _ _ _ _
    (row-turn _ _ _ _ _ _ _ _ _ _ _ _ c.loop-turns.invariant.0 c.loop-turns-test.true _ c.u16_at-c.ensures.0) c.walk_item.ensures c.in_err-gone.was)

pub walk_stretch-overflow_sub-used : goal.walk_stretch-overflow_sub-used
walk_stretch-overflow_sub-used t c =
    let gone = turned _ _ _ (node_kept _ _ _) _ _ _ _ _ _ _ _ _
    (row-turn _ _ _ _ _ _ _ _ _ _ _ _ c.loop-turns.invariant.0 c.loop-turns-test.true _ c.u16_at-c.ensures.0)
    c.walk_item.ensures c.loop-turns.invariant.4 c.in_ok-gone.was in
    gone.0.one.up

pub walk_stretch-slice_bounds-rest-count : goal.walk_stretch-slice_bounds-rest-count
walk_stretch-slice_bounds-rest-count t c =
    let gone = turned _ _ _ (node_kept _ _ _) _ _ _ _ _ _ _ _ _
    (row-turn _ _ _ _ _ _ _ _ _ _ _ _ c.loop-turns.invariant.0 c.loop-turns-test.true _ c.u16_at-c.ensures.0)
    c.walk_item.ensures c.loop-turns.invariant.4 c.in_ok-gone.was in
    gone.0.one.inside

pub walk_stretch-slice_bounds-rest-start : goal.walk_stretch-slice_bounds-rest-start
walk_stretch-slice_bounds-rest-start t c =
    let gone = turned _ _ _ (node_kept _ _ _) _ _ _ _ _ _ _ _ _
    (row-turn _ _ _ _ _ _ _ _ _ _ _ _ c.loop-turns.invariant.0 c.loop-turns-test.true _ c.u16_at-c.ensures.0)
    c.walk_item.ensures c.loop-turns.invariant.4 c.in_ok-gone.was in
    gone.0.one.inside

pub walk_stretch-overflow_sub-past : goal.walk_stretch-overflow_sub-past
walk_stretch-overflow_sub-past t c =
    let gone = turned _ _ _ (node_kept _ _ _) _ _ _ _ _ _ _ _ _
    (row-turn _ _ _ _ _ _ _ _ _ _ _ _ c.loop-turns.invariant.0 c.loop-turns-test.true _ c.u16_at-c.ensures.0)
    c.walk_item.ensures c.loop-turns.invariant.4 c.in_ok-gone.was in
    gone.0.other.up

pub walk_stretch-slice_bounds-left-count : goal.walk_stretch-slice_bounds-left-count
walk_stretch-slice_bounds-left-count t c =
    let gone = turned _ _ _ (node_kept _ _ _) _ _ _ _ _ _ _ _ _
    (row-turn _ _ _ _ _ _ _ _ _ _ _ _ c.loop-turns.invariant.0 c.loop-turns-test.true _ c.u16_at-c.ensures.0)
    c.walk_item.ensures c.loop-turns.invariant.4 c.in_ok-gone.was in
    gone.0.other.inside

pub walk_stretch-slice_bounds-left-start : goal.walk_stretch-slice_bounds-left-start
walk_stretch-slice_bounds-left-start t c =
    let gone = turned _ _ _ (node_kept _ _ _) _ _ _ _ _ _ _ _ _
    (row-turn _ _ _ _ _ _ _ _ _ _ _ _ c.loop-turns.invariant.0 c.loop-turns-test.true _ c.u16_at-c.ensures.0)
    c.walk_item.ensures c.loop-turns.invariant.4 c.in_ok-gone.was in
    gone.0.other.inside

pub walk_stretch-loop-turns-preserved : goal.walk_stretch-loop-turns-preserved
walk_stretch-loop-turns-preserved t c =
    let gone = turned _ _ _ (node_kept _ _ _) _ _ _ _ _ _ _ _ _
    (row-turn _ _ _ _ _ _ _ _ _ _ _ _ c.loop-turns.invariant.0 c.loop-turns-test.true _ c.u16_at-c.ensures.0)
    c.walk_item.ensures c.loop-turns.invariant.4 c.in_ok-gone.was in (
      gone.1,
      falls-next c.loop-turns.invariant.1 c.loop-turns-test.true,
      omega (arith, gone.0.one.kept),
      omega (arith, gone.0.other.kept),
      gone.0.few,
      c.walk_item.auto.list ∙ c.loop-turns.invariant.5,
    )

pub walk_stretch-returns : goal.walk_stretch-returns
walk_stretch-returns t c = row_done _ _ _ _ _ _ _ _ _ _ _ _ c.loop-turns.invariant.0 c.loop-turns-test.false
