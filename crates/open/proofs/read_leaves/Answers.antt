-- `open::read_leaves` meets its contract: the loop's invariant is that what is left of the row is what is left of the reading.
-- Assumes nothing.
use mathlib.Core.Path.{◌≡◌, refl, sym, ap, ◌∙◌}
use Prim.Native.Nat.{◌+◌, ◌-◌, ◌^◌, ◌<◌}
use native.Mathlib.Nat.{le_refl}
use native.Mathlib.Omega.{arith}
use lib.ListN.{length, length-drop}
use Rattle.wire.specs.Table.{u16_at}
use Rattle.wire.specs.Reading.{head_by, reading}
use Rattle.laws.proofs.Answers.{handed-up}
use Rattle.laws.proofs.Bounds.{head-by-sound}
use Rattle.laws.proofs.KindRanges.{is-inner}
use Rattle.table.specs.Parts.{node_step}
use Rattle.table.proofs.Stretches.{falls-first}
use Rattle.read_item.specs.Lay.{lay}
use Rattle.read_item.specs.Steps.{spot}
use Rattle.reader.specs.Steps.{Gives}
use Rattle.reader.proofs.Turns.{Went}
use Rattle.open.specs.Steps.{last_from}
use Rattle.open.proofs.Leading.{falls-last, passes_none, passes-all, passes-inner, passes-stops, passes-went, passes-rest, passes-next, passes-full, leaf-called}
use Rattle.open.proofs.read_leaves.Goals as goal

pub loop-left-init : goal.loop-left-init
loop-left-init c = let z : c.args.place - c.args.place ≡ 0 = omega arith in (passes_none, omega arith, rw z, refl)

pub shape_of-store-then-room-sofar : goal.shape_of-store-then-room-sofar
shape_of-store-then-room-sofar c = c.loop-left.invariant.3

pub returns-then-room-sofar : goal.returns-then-room-sofar
returns-then-room-sofar c = passes-full c.loop-left.invariant.0 c.loop-left-test.true refl c.loop-left.invariant.2 (head-by-sound _) c.requires.good_table (falls-first (falls-last c.requires.falls _ c.loop-left.invariant.0.fewer) c.loop-left-test.true) c.if-room-sofar.true

pub u16_at-c-requires : goal.u16_at-c-requires
u16_at-c-requires c = omega (arith, (falls-last c.requires.falls _ c.loop-left.invariant.0.fewer).inside, c.loop-left.invariant.1, c.loop-left-test.true)

pub kind_at-number-requires : goal.kind_at-number-requires
kind_at-number-requires c = record { good_table = c.requires.good_table; i_lt_nodes = (let below-nodes : c.u16_at-c.result < c.args.l.nodes = omega (arith, (let next-is : c.u16_at-c.result ≡ u16_at c.args.table.now (last_from c.args.from c.args.width c.loop-left.left) = rw c.loop-left.invariant.1 at c.u16_at-c.ensures.0 in next-is), falls-first (falls-last c.requires.falls _ c.loop-left.invariant.0.fewer) c.loop-left-test.true) in below-nodes) }

pub shape_of-store-then-is_inner : goal.shape_of-store-then-is_inner
shape_of-store-then-is_inner c = c.loop-left.invariant.3

pub returns-then-is_inner : goal.returns-then-is_inner
returns-then-is_inner c = passes-inner c.loop-left.invariant.0 _ (let next-is : c.u16_at-c.result ≡ u16_at c.args.table.now (last_from c.args.from c.args.width c.loop-left.left) = rw c.loop-left.invariant.1 at c.u16_at-c.ensures.0 in next-is) (omega arith) _ c.kind_at-number.ensures (is-inner _ (sym c.is_inner.ensures ∙ c.if-is_inner.true))

pub read_leaf-requires : goal.read_leaf-requires
read_leaf-requires c = record { part_bound = (let part-fits : c.loop-left.at + length c.loop-left.rest.now < 2 ^ 64 = let i = c.loop-left.invariant in omega (arith, i.0.up, i.0.inside, ap length i.2, length-drop (c.loop-left.at - c.args.place) c.args.part.now, c.requires.part_bound) in part-fits); made_bound = omega arith }

pub shape_of-store-in_err-next : goal.shape_of-store-in_err-next
shape_of-store-in_err-next c = c.store-1.given ∙ c.loop-left.invariant.3

pub returns-in_err-next : goal.returns-in_err-next
returns-in_err-next c = rw (handed-up c.from_residual.ensures) (passes-stops c.loop-left.invariant.0 c.loop-left-test.true (let next-is : c.u16_at-c.result ≡ u16_at c.args.table.now (last_from c.args.from c.args.width c.loop-left.left) = rw c.loop-left.invariant.1 at c.u16_at-c.ensures.0 in next-is) c.loop-left.invariant.2 (head-by-sound _) (let called : Gives (lay c.args.room (node_step (reading (head_by c.args.strict)) c.args.table.now c.args.l c.u16_at-c.result (spot c.loop-left.rest.now c.loop-left.at)) c.loop-left.sofar c.loop-left.store) c.read_leaf.result c.read_leaf.new.store = leaf-called _ _ c.requires.good_table (let below-nodes : c.u16_at-c.result < c.args.l.nodes = omega (arith, (let next-is : c.u16_at-c.result ≡ u16_at c.args.table.now (last_from c.args.from c.args.width c.loop-left.left) = rw c.loop-left.invariant.1 at c.u16_at-c.ensures.0 in next-is), falls-first (falls-last c.requires.falls _ c.loop-left.invariant.0.fewer) c.loop-left-test.true) in below-nodes) _ _ _ _ (omega arith) _ c.kind_at-number.ensures (sym c.is_inner.ensures ∙ c.if-is_inner.false) (let part-fits : c.loop-left.at + length c.loop-left.rest.now < 2 ^ 64 = let i = c.loop-left.invariant in omega (arith, i.0.up, i.0.inside, ap length i.2, length-drop (c.loop-left.at - c.args.place) c.args.part.now, c.requires.part_bound) in part-fits) c.read_leaf.ensures in called) c.in_err-next.was)

pub overflow_sub-used : goal.overflow_sub-used
overflow_sub-used c = (let went : Went c.loop-left.rest.now c.loop-left.at c.in_ok-next.field-0.place = passes-went c.loop-left.invariant.0 c.loop-left-test.true (let next-is : c.u16_at-c.result ≡ u16_at c.args.table.now (last_from c.args.from c.args.width c.loop-left.left) = rw c.loop-left.invariant.1 at c.u16_at-c.ensures.0 in next-is) c.loop-left.invariant.2 (head-by-sound _) (let called : Gives (lay c.args.room (node_step (reading (head_by c.args.strict)) c.args.table.now c.args.l c.u16_at-c.result (spot c.loop-left.rest.now c.loop-left.at)) c.loop-left.sofar c.loop-left.store) c.read_leaf.result c.read_leaf.new.store = leaf-called _ _ c.requires.good_table (let below-nodes : c.u16_at-c.result < c.args.l.nodes = omega (arith, (let next-is : c.u16_at-c.result ≡ u16_at c.args.table.now (last_from c.args.from c.args.width c.loop-left.left) = rw c.loop-left.invariant.1 at c.u16_at-c.ensures.0 in next-is), falls-first (falls-last c.requires.falls _ c.loop-left.invariant.0.fewer) c.loop-left-test.true) in below-nodes) _ _ _ _ (omega arith) _ c.kind_at-number.ensures (sym c.is_inner.ensures ∙ c.if-is_inner.false) (let part-fits : c.loop-left.at + length c.loop-left.rest.now < 2 ^ 64 = let i = c.loop-left.invariant in omega (arith, i.0.up, i.0.inside, ap length i.2, length-drop (c.loop-left.at - c.args.place) c.args.part.now, c.requires.part_bound) in part-fits) c.read_leaf.ensures in called) c.in_ok-next.was in went).up

pub slice_bounds-rest-count : goal.slice_bounds-rest-count
slice_bounds-rest-count c = (let went : Went c.loop-left.rest.now c.loop-left.at c.in_ok-next.field-0.place = passes-went c.loop-left.invariant.0 c.loop-left-test.true (let next-is : c.u16_at-c.result ≡ u16_at c.args.table.now (last_from c.args.from c.args.width c.loop-left.left) = rw c.loop-left.invariant.1 at c.u16_at-c.ensures.0 in next-is) c.loop-left.invariant.2 (head-by-sound _) (let called : Gives (lay c.args.room (node_step (reading (head_by c.args.strict)) c.args.table.now c.args.l c.u16_at-c.result (spot c.loop-left.rest.now c.loop-left.at)) c.loop-left.sofar c.loop-left.store) c.read_leaf.result c.read_leaf.new.store = leaf-called _ _ c.requires.good_table (let below-nodes : c.u16_at-c.result < c.args.l.nodes = omega (arith, (let next-is : c.u16_at-c.result ≡ u16_at c.args.table.now (last_from c.args.from c.args.width c.loop-left.left) = rw c.loop-left.invariant.1 at c.u16_at-c.ensures.0 in next-is), falls-first (falls-last c.requires.falls _ c.loop-left.invariant.0.fewer) c.loop-left-test.true) in below-nodes) _ _ _ _ (omega arith) _ c.kind_at-number.ensures (sym c.is_inner.ensures ∙ c.if-is_inner.false) (let part-fits : c.loop-left.at + length c.loop-left.rest.now < 2 ^ 64 = let i = c.loop-left.invariant in omega (arith, i.0.up, i.0.inside, ap length i.2, length-drop (c.loop-left.at - c.args.place) c.args.part.now, c.requires.part_bound) in part-fits) c.read_leaf.ensures in called) c.in_ok-next.was in went).inside

pub slice_bounds-rest-start : goal.slice_bounds-rest-start
slice_bounds-rest-start c = (let went : Went c.loop-left.rest.now c.loop-left.at c.in_ok-next.field-0.place = passes-went c.loop-left.invariant.0 c.loop-left-test.true (let next-is : c.u16_at-c.result ≡ u16_at c.args.table.now (last_from c.args.from c.args.width c.loop-left.left) = rw c.loop-left.invariant.1 at c.u16_at-c.ensures.0 in next-is) c.loop-left.invariant.2 (head-by-sound _) (let called : Gives (lay c.args.room (node_step (reading (head_by c.args.strict)) c.args.table.now c.args.l c.u16_at-c.result (spot c.loop-left.rest.now c.loop-left.at)) c.loop-left.sofar c.loop-left.store) c.read_leaf.result c.read_leaf.new.store = leaf-called _ _ c.requires.good_table (let below-nodes : c.u16_at-c.result < c.args.l.nodes = omega (arith, (let next-is : c.u16_at-c.result ≡ u16_at c.args.table.now (last_from c.args.from c.args.width c.loop-left.left) = rw c.loop-left.invariant.1 at c.u16_at-c.ensures.0 in next-is), falls-first (falls-last c.requires.falls _ c.loop-left.invariant.0.fewer) c.loop-left-test.true) in below-nodes) _ _ _ _ (omega arith) _ c.kind_at-number.ensures (sym c.is_inner.ensures ∙ c.if-is_inner.false) (let part-fits : c.loop-left.at + length c.loop-left.rest.now < 2 ^ 64 = let i = c.loop-left.invariant in omega (arith, i.0.up, i.0.inside, ap length i.2, length-drop (c.loop-left.at - c.args.place) c.args.part.now, c.requires.part_bound) in part-fits) c.read_leaf.ensures in called) c.in_ok-next.was in went).inside

pub slice_bounds-rest-end : goal.slice_bounds-rest-end
slice_bounds-rest-end c = le_refl _

pub overflow_add-child : goal.overflow_add-child
overflow_add-child c = omega (arith, (falls-last c.requires.falls _ c.loop-left.invariant.0.fewer).inside, c.loop-left.invariant.1, c.loop-left-test.true)

pub overflow_sub-left : goal.overflow_sub-left
overflow_sub-left c = c.loop-left-test.true

pub loop-left-smaller : goal.loop-left-smaller
loop-left-smaller c = omega (arith, c.loop-left-test.true)

pub loop-left-preserved : goal.loop-left-preserved
loop-left-preserved c = (
  passes-next c.loop-left.invariant.0 c.loop-left-test.true (let next-is : c.u16_at-c.result ≡ u16_at c.args.table.now (last_from c.args.from c.args.width c.loop-left.left) = rw c.loop-left.invariant.1 at c.u16_at-c.ensures.0 in next-is) c.loop-left.invariant.2 (head-by-sound _) (let called : Gives (lay c.args.room (node_step (reading (head_by c.args.strict)) c.args.table.now c.args.l c.u16_at-c.result (spot c.loop-left.rest.now c.loop-left.at)) c.loop-left.sofar c.loop-left.store) c.read_leaf.result c.read_leaf.new.store = leaf-called _ _ c.requires.good_table (let below-nodes : c.u16_at-c.result < c.args.l.nodes = omega (arith, (let next-is : c.u16_at-c.result ≡ u16_at c.args.table.now (last_from c.args.from c.args.width c.loop-left.left) = rw c.loop-left.invariant.1 at c.u16_at-c.ensures.0 in next-is), falls-first (falls-last c.requires.falls _ c.loop-left.invariant.0.fewer) c.loop-left-test.true) in below-nodes) _ _ _ _ (omega arith) _ c.kind_at-number.ensures (sym c.is_inner.ensures ∙ c.if-is_inner.false) (let part-fits : c.loop-left.at + length c.loop-left.rest.now < 2 ^ 64 = let i = c.loop-left.invariant in omega (arith, i.0.up, i.0.inside, ap length i.2, length-drop (c.loop-left.at - c.args.place) c.args.part.now, c.requires.part_bound) in part-fits) c.read_leaf.ensures in called) c.in_ok-next.was,
  omega (arith, c.loop-left.invariant.1, c.loop-left-test.true, c.loop-left.invariant.0.fewer),
  passes-rest c.loop-left.invariant.0 c.loop-left-test.true (let next-is : c.u16_at-c.result ≡ u16_at c.args.table.now (last_from c.args.from c.args.width c.loop-left.left) = rw c.loop-left.invariant.1 at c.u16_at-c.ensures.0 in next-is) c.loop-left.invariant.2 (head-by-sound _) (let called : Gives (lay c.args.room (node_step (reading (head_by c.args.strict)) c.args.table.now c.args.l c.u16_at-c.result (spot c.loop-left.rest.now c.loop-left.at)) c.loop-left.sofar c.loop-left.store) c.read_leaf.result c.read_leaf.new.store = leaf-called _ _ c.requires.good_table (let below-nodes : c.u16_at-c.result < c.args.l.nodes = omega (arith, (let next-is : c.u16_at-c.result ≡ u16_at c.args.table.now (last_from c.args.from c.args.width c.loop-left.left) = rw c.loop-left.invariant.1 at c.u16_at-c.ensures.0 in next-is), falls-first (falls-last c.requires.falls _ c.loop-left.invariant.0.fewer) c.loop-left-test.true) in below-nodes) _ _ _ _ (omega arith) _ c.kind_at-number.ensures (sym c.is_inner.ensures ∙ c.if-is_inner.false) (let part-fits : c.loop-left.at + length c.loop-left.rest.now < 2 ^ 64 = let i = c.loop-left.invariant in omega (arith, i.0.up, i.0.inside, ap length i.2, length-drop (c.loop-left.at - c.args.place) c.args.part.now, c.requires.part_bound) in part-fits) c.read_leaf.ensures in called) c.in_ok-next.was,
  c.store-1.given ∙ c.loop-left.invariant.3,
)

pub shape_of-store : goal.shape_of-store
shape_of-store c = c.loop-left.invariant.3

pub returns : goal.returns
returns c = passes-all c.loop-left.invariant.0 c.loop-left-test.false
