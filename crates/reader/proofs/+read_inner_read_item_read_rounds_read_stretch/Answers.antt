-- The cycle of calls: an item, one with children, the rounds of the stretch that follows it, one round. The node's number falls from an item to those of its stretch.
-- Assumes nothing.
use mathlib.Core.Path.{sym, ◌∙◌}
use Prim.Native.Nat.{ℕ, ◌+◌, ◌*◌, ◌-◌, ◌<◌, ◌≤◌}
use native.Mathlib.Omega.{arith}
use lib.ListN.{length}
use Rattle.laws.proofs.Bounds.{head-by-sound}
use Rattle.laws.proofs.KindRanges.{is-inner, not-inner}
use Rattle.laws.proofs.Parts.{length-tail}
use Rattle.table.proofs.Stretches.{falls-first, falls-next, flat-falls}
use Rattle.read_item.proofs.Entering.{item-full}
use Rattle.read_item.proofs.Heads.{int-taken, int-ends}
use Rattle.reader.proofs.Laying.{gives-refused, gives_as}
use Rattle.reader.proofs.Rounds.{begun-full, begun-at}
use Rattle.reader.proofs.Turns.{Went, turn-refused, turned, row_done, row-turn, rounds-done, rounds-turn, node-steady, row-steady, entered-refused, entered_on, leaf-gives, goes-done, goes_on, leaf-own, int-gives}
use Rattle.reader.proofs.+read_inner_read_item_read_rounds_read_stretch.Goals as goal

less : {n : ℕ} → 0 < n → n - 1 < n
less h = omega arith

pub read_inner-enter-requires : goal.read_inner-enter-requires
read_inner-enter-requires t c = let p = c.requires in record { good_table = p.good_table; node_lt_nodes = p.node_lt_nodes; inner = p.inner }

pub read_inner-overflow_add-after : goal.read_inner-overflow_add-after
read_inner-overflow_add-after t c = let g = entered_on _ _ c.requires.good_table c.requires.node_lt_nodes _ _ _ _ c.requires.made_lt_room c.enter.ensures (head-by-sound _) c.in-Ok.is in omega (arith, g.inside, c.requires.part_bound)

pub read_inner-overflow_add-next : goal.read_inner-overflow_add-next
read_inner-overflow_add-next t c = omega (arith, c.requires.made_lt_room)

pub read_inner-returns-then-to-eq0 : goal.read_inner-returns-then-to-eq0
read_inner-returns-then-to-eq0 t c = goes-done (entered_on _ _ c.requires.good_table c.requires.node_lt_nodes _ _ _ _ c.requires.made_lt_room c.enter.ensures (head-by-sound _) c.in-Ok.is) c.if-to-eq0.true

pub read_inner-flat-way-requires : goal.read_inner-flat-way-requires
read_inner-flat-way-requires t c = record { good_table = c.requires.good_table; node_le_nodes = omega (arith, c.requires.node_lt_nodes); falls = (entered_on _ _ c.requires.good_table c.requires.node_lt_nodes _ _ _ _ c.requires.made_lt_room c.enter.ensures (head-by-sound _) c.in-Ok.is).falls }

pub read_inner-read_rounds-requires : goal.read_inner-read_rounds-requires
read_inner-read_rounds-requires t c =
    let low : c.args.node * 4 + 1 < c.args.node * 4 + 2 = omega arith in
    let inside : c.in-Ok.inside.used ≤ length c.args.part.now = (entered_on _ _ c.requires.good_table c.requires.node_lt_nodes _ _ _ _ c.requires.made_lt_room c.enter.ensures (head-by-sound _) c.in-Ok.is).inside in (
      rw c.decreases at low,
      (c.requires.good_table, (omega (arith, c.requires.node_lt_nodes), (flat-falls c.requires.good_table (omega (arith, c.requires.node_lt_nodes)) c.flat-way.ensures, omega (arith, inside, c.requires.part_bound, length-tail c.args.part.now c.in-Ok.inside.used)))),
    )

pub read_inner-slice_bounds-read_rounds-count : goal.read_inner-slice_bounds-read_rounds-count
read_inner-slice_bounds-read_rounds-count t c = (entered_on _ _ c.requires.good_table c.requires.node_lt_nodes _ _ _ _ c.requires.made_lt_room c.enter.ensures (head-by-sound _) c.in-Ok.is).inside

pub read_inner-slice_bounds-read_rounds-start : goal.read_inner-slice_bounds-read_rounds-start
read_inner-slice_bounds-read_rounds-start t c = (entered_on _ _ c.requires.good_table c.requires.node_lt_nodes _ _ _ _ c.requires.made_lt_room c.enter.ensures (head-by-sound _) c.in-Ok.is).inside

pub read_inner-returns-in-Err : goal.read_inner-returns-in-Err
read_inner-returns-in-Err t c = entered-refused _ _ c.requires.good_table c.requires.node_lt_nodes _ _ _ _ c.requires.made_lt_room c.enter.ensures c.in-Err.is

pub read_inner-returns-else-to-eq0 : goal.read_inner-returns-else-to-eq0
read_inner-returns-else-to-eq0 t c = goes_on (entered_on _ _ c.requires.good_table c.requires.node_lt_nodes _ _ _ _ c.requires.made_lt_room c.enter.ensures (head-by-sound _) c.in-Ok.is) c.requires.good_table (omega (arith, c.requires.node_lt_nodes)) c.flat-way.ensures c.read_rounds.ensures

pub read_item-returns-then-room-made : goal.read_item-returns-then-room-made
read_item-returns-then-room-made t c = gives-refused (item-full _ _ c.requires.good_table c.requires.node_lt_nodes _ _ _ (omega arith))

pub read_item-lay-got-requires : goal.read_item-lay-got-requires
read_item-lay-got-requires t c = record { ends = int-ends _ c.int_bytes.ensures c.in-Some.is c.requires.part_bound; made_bound = omega arith }

pub read_item-returns-in_default-got : goal.read_item-returns-in_default-got
read_item-returns-in_default-got t c = let taken = int-taken _ c.int_bytes.ensures c.in-Some.is c.requires.part_bound in
    int-gives _ _ c.requires.good_table c.requires.node_lt_nodes _ _ _ _ (omega arith) _ c.kind_at-number.ensures taken.0 c.if-not-strict.true c.requires.part_bound taken.1 c.lay-got.ensures

pub read_item-returns-in-Some : goal.read_item-returns-in-Some
read_item-returns-in-Some t c = let taken = int-taken _ c.int_bytes.ensures c.in-Some.is c.requires.part_bound in
    gives_as c.in-Ok.is (int-gives _ _ c.requires.good_table c.requires.node_lt_nodes _ _ _ _ (omega arith) _ c.kind_at-number.ensures taken.0 c.if-not-strict.true c.requires.part_bound taken.1 c.lay-got.ensures)

pub read_item-read_inner-requires : goal.read_item-read_inner-requires
read_item-read_inner-requires t c = let low : c.args.node * 4 + 2 < c.args.node * 4 + 3 = omega arith in
    let inner = is-inner _ (sym c.is_inner.ensures ∙ c.if-is_inner.true) in (
      rw c.decreases at low,
      (c.requires.good_table, (c.requires.node_lt_nodes, (record { kind = c.kind_at-number.ensures; inner = inner }, (omega arith, c.requires.part_bound)))),
    )

pub read_item-returns : goal.read_item-returns
read_item-returns t c = let outer = not-inner _ (sym c.is_inner.ensures ∙ c.if-is_inner.false) in
    let kind = c.kind_at-number.ensures in
    leaf-gives _ _ c.requires.good_table c.requires.node_lt_nodes _ _ _ _ (omega arith) _ kind outer (leaf-own _ c.requires.good_table c.requires.node_lt_nodes _ _ _ kind outer c.requires.part_bound) c.read_leaf.ensures

pub read_rounds-returns-in_default : goal.read_rounds-returns-in_default
read_rounds-returns-in_default t c = begun-full (head-by-sound _) _ _ _ _ _ _ _ c.begin.ensures (rounds-turn _ _ _ _ _ _ _ _ _ _ _ _ _ c.loop-left.invariant.0 c.loop-left-test.true) c.in_default.is

pub read_rounds-read_stretch-got-requires : goal.read_rounds-read_stretch-got-requires
read_rounds-read_stretch-got-requires t c = (omega arith, (c.requires.good_table, (c.requires.node_le_nodes, (c.requires.falls, omega arith))))

pub read_rounds-returns-in_default-got : goal.read_rounds-returns-in_default-got
read_rounds-returns-in_default-got t c = turn-refused _ _ _ (row-steady (head-by-sound _) _ _ _ _) _ _ _ _ _
    (begun-at (head-by-sound _) _ _ _ _ _ _ _ c.begin.ensures (rounds-turn _ _ _ _ _ _ _ _ _ _ _ _ _ c.loop-left.invariant.0 c.loop-left-test.true) c.in-Some.is)
    _ _ c.read_stretch-got.ensures c.in_default-got.is

pub read_rounds-overflow_sub-used : goal.read_rounds-overflow_sub-used
read_rounds-overflow_sub-used t c = let went : Went c.loop-left.rest.now c.loop-left.at c.in-Ok.read.place = (turned _ _ _ (row-steady (head-by-sound _) _ _ _ _) _ _ _ _ _
    (begun-at (head-by-sound _) _ _ _ _ _ _ _ c.begin.ensures (rounds-turn _ _ _ _ _ _ _ _ _ _ _ _ _ c.loop-left.invariant.0 c.loop-left-test.true) c.in-Some.is)
    _ _ c.read_stretch-got.ensures c.in-Ok.is).0 in went.up

pub read_rounds-slice_bounds-rest-count : goal.read_rounds-slice_bounds-rest-count
read_rounds-slice_bounds-rest-count t c = let went : Went c.loop-left.rest.now c.loop-left.at c.in-Ok.read.place = (turned _ _ _ (row-steady (head-by-sound _) _ _ _ _) _ _ _ _ _
    (begun-at (head-by-sound _) _ _ _ _ _ _ _ c.begin.ensures (rounds-turn _ _ _ _ _ _ _ _ _ _ _ _ _ c.loop-left.invariant.0 c.loop-left-test.true) c.in-Some.is)
    _ _ c.read_stretch-got.ensures c.in-Ok.is).0 in went.inside

pub read_rounds-slice_bounds-rest-start : goal.read_rounds-slice_bounds-rest-start
read_rounds-slice_bounds-rest-start t c = let went : Went c.loop-left.rest.now c.loop-left.at c.in-Ok.read.place = (turned _ _ _ (row-steady (head-by-sound _) _ _ _ _) _ _ _ _ _
    (begun-at (head-by-sound _) _ _ _ _ _ _ _ c.begin.ensures (rounds-turn _ _ _ _ _ _ _ _ _ _ _ _ _ c.loop-left.invariant.0 c.loop-left-test.true) c.in-Some.is)
    _ _ c.read_stretch-got.ensures c.in-Ok.is).0 in went.inside

pub read_rounds-loop-left-preserved : goal.read_rounds-loop-left-preserved
read_rounds-loop-left-preserved t c = (
  (turned _ _ _ (row-steady (head-by-sound _) _ _ _ _) _ _ _ _ _
      (begun-at (head-by-sound _) _ _ _ _ _ _ _ c.begin.ensures (rounds-turn _ _ _ _ _ _ _ _ _ _ _ _ _ c.loop-left.invariant.0 c.loop-left-test.true) c.in-Some.is)
      _ _ c.read_stretch-got.ensures c.in-Ok.is).1,
  omega (
    arith,
    (let went : Went c.loop-left.rest.now c.loop-left.at c.in-Ok.read.place = (turned _ _ _ (row-steady (head-by-sound _) _ _ _ _) _ _ _ _ _
        (begun-at (head-by-sound _) _ _ _ _ _ _ _ c.begin.ensures (rounds-turn _ _ _ _ _ _ _ _ _ _ _ _ _ c.loop-left.invariant.0 c.loop-left-test.true) c.in-Some.is)
        _ _ c.read_stretch-got.ensures c.in-Ok.is).0 in went).kept,
  ),
  c.read_stretch-got.auto.store ∙ c.begin.auto.store ∙ c.loop-left.invariant.2,
)

pub read_rounds-returns : goal.read_rounds-returns
read_rounds-returns t c = rounds-done _ _ _ _ _ _ _ _ _ _ _ _ _ c.loop-left.invariant.0 c.loop-left-test.false

pub read_stretch-read_item-got-requires : goal.read_stretch-read_item-got-requires
read_stretch-read_item-got-requires t c = let f = falls-first c.loop-left.invariant.1 c.loop-left-test.true in
    (omega arith, (c.requires.good_table, (omega arith, omega arith)))

pub read_stretch-returns-in_default : goal.read_stretch-returns-in_default
read_stretch-returns-in_default t c = turn-refused _ _ _ (node-steady (head-by-sound _) _ _ _) _ _ _ _ _ (row-turn _ _ _ _ _ _ _ _ _ _ _ c.loop-left.invariant.0 c.loop-left-test.true _ c.u16_at-c.ensures.0) _ _ c.read_item-got.ensures c.in_default.is

pub read_stretch-overflow_sub-used : goal.read_stretch-overflow_sub-used
read_stretch-overflow_sub-used t c = let went : Went c.loop-left.rest.now c.loop-left.at c.in-Ok.read.place = (turned _ _ _ (node-steady (head-by-sound _) _ _ _) _ _ _ _ _ (row-turn _ _ _ _ _ _ _ _ _ _ _ c.loop-left.invariant.0 c.loop-left-test.true _ c.u16_at-c.ensures.0) _ _ c.read_item-got.ensures c.in-Ok.is).0 in went.up

pub read_stretch-slice_bounds-rest-count : goal.read_stretch-slice_bounds-rest-count
read_stretch-slice_bounds-rest-count t c = let went : Went c.loop-left.rest.now c.loop-left.at c.in-Ok.read.place = (turned _ _ _ (node-steady (head-by-sound _) _ _ _) _ _ _ _ _ (row-turn _ _ _ _ _ _ _ _ _ _ _ c.loop-left.invariant.0 c.loop-left-test.true _ c.u16_at-c.ensures.0) _ _ c.read_item-got.ensures c.in-Ok.is).0 in went.inside

pub read_stretch-slice_bounds-rest-start : goal.read_stretch-slice_bounds-rest-start
read_stretch-slice_bounds-rest-start t c = let went : Went c.loop-left.rest.now c.loop-left.at c.in-Ok.read.place = (turned _ _ _ (node-steady (head-by-sound _) _ _ _) _ _ _ _ _ (row-turn _ _ _ _ _ _ _ _ _ _ _ c.loop-left.invariant.0 c.loop-left-test.true _ c.u16_at-c.ensures.0) _ _ c.read_item-got.ensures c.in-Ok.is).0 in went.inside

pub read_stretch-loop-left-preserved : goal.read_stretch-loop-left-preserved
read_stretch-loop-left-preserved t c = (
  (turned _ _ _ (node-steady (head-by-sound _) _ _ _) _ _ _ _ _ (row-turn _ _ _ _ _ _ _ _ _ _ _ c.loop-left.invariant.0 c.loop-left-test.true _ c.u16_at-c.ensures.0) _ _ c.read_item-got.ensures c.in-Ok.is).1,
  falls-next c.loop-left.invariant.1 c.loop-left-test.true,
  omega (arith, (let went : Went c.loop-left.rest.now c.loop-left.at c.in-Ok.read.place = (turned _ _ _ (node-steady (head-by-sound _) _ _ _) _ _ _ _ _ (row-turn _ _ _ _ _ _ _ _ _ _ _ c.loop-left.invariant.0 c.loop-left-test.true _ c.u16_at-c.ensures.0) _ _ c.read_item-got.ensures c.in-Ok.is).0 in went).kept),
  c.read_item-got.auto.store ∙ c.loop-left.invariant.3,
)

pub read_stretch-returns : goal.read_stretch-returns
read_stretch-returns t c = row_done _ _ _ _ _ _ _ _ _ _ _ c.loop-left.invariant.0 c.loop-left-test.false
