-- A table whose check is good has every node good and every chain short, and its shape no longer depends on the count that its definition recurses on: a chain of children goes down in number at each.
-- Assumes nothing.
use mathlib.Core.Path.{◌≡◌, refl, sym, ap, ap₂}
use mathlib.Core.Bool.{Bool, true, false, false≢true}
use mathlib.Core.List.{List}
use Prim.Native.Nat.{ℕ, zero, suc, ◌+◌, ◌-◌, ◌*◌, ◌≤◌, ◌<◌}
use native.Mathlib.Nat.{add-zero, not-suc-le-zero}
use native.Mathlib.Omega.{arith}
use lib.ListN.{length}
use lib.Dec.{eqb}
use borrow.Author.Tests.{ltb-true, leb-true, eqb-true}
use Rattle.wire.specs.declared.Refusal.{Refusal}
use Rattle.wire.specs.declared.Ending.{Ending}
use Rattle.wire.specs.declared.Layout.{Layout}
use Rattle.wire.specs.Checked.{Good, Bad}
use Rattle.wire.specs.Tests.{given, both}
use Rattle.wire.specs.Shape.{Kind, plain, pooled, option, sequence, map, struct, enum, Shape, node, more, depth, deepest}
use Rattle.wire.specs.Table.{u16_at, TableForm, first, second, size_of, most_nodes, table_form, ending_at, layout_at, good_trailer, is_kind, Node, node_at, record_of, first_child, child_count, below, good_places, good_kind, good_node, shapes_at, shape_by, shape_f, shape_of, chain_of, short_chain, good_in, check_from, check_at, check_as, check}
use Rattle.laws.specs.Tables.{node_kind, node_first, node_count, node_child, node_shape, GoodNode, GoodTable, Limits}
use Rattle.laws.proofs.Splits.{by-eq, both_left, both_right}
use Rattle.laws.proofs.Trailers.{numbers}

-- a choice that is z, as its second side is not
chosen : {X : Type 0} {y z : X} → (y ≡ z → ⊥) → (t : Bool) (f : Unit {0} → X) → given t f y ≡ z → (t ≡ true) × (f tt ≡ z)
unfolding given
chosen other true f e = (refl, e)
chosen other false f e = absurd (other e)

-- ---- the children

pub next_place : (from c : ℕ) → from + 2 * suc c ≡ from + 2 + 2 * c
next_place from c = omega arith

module _ (s : List ℕ) (i : ℕ) where
  pub below_at : (from n : ℕ) → below s i from n ≡ true → (c : ℕ) → c < n → u16_at s (from + 2 * c) < i
  unfolding below
  below_at from zero h c l = absurd (not-suc-le-zero l)
  below_at from (suc n) h zero l = rw (add-zero from) (ltb-true (u16_at s from) i (both_left _ _ h))
  below_at from (suc n) h (suc c) l = rw (next_place from c) (below_at (from + 2) n (both_right _ _ h) c (omega arith))

  -- only the children are asked for
  shapes-same : {f g : ℕ → Shape} → ((c : ℕ) → c < i → f c ≡ g c) → (from n : ℕ) → below s i from n ≡ true → shapes_at f s from n ≡ shapes_at g s from n
  unfolding shapes_at below
  shapes-same e from zero h = refl
  shapes-same e from (suc n) h = ap₂ more (e (u16_at s from) (ltb-true (u16_at s from) i (both_left _ _ h))) (shapes-same e (from + 2) n (both_right _ _ h))

-- ---- a node

-- what the test of a node tells
pub record Tested (s : List ℕ) (l : Layout) (i : ℕ) (r : Node) : Type 0 where
  pub is-kind : is_kind r.number ≡ true
  pub zeroed : r.zeroed ≡ 0
  pub places : good_places l (node_kind r) r.a r.b ≡ true
  pub smaller : below s i (node_first l i r) (node_count r) ≡ true

pub tested : (s : List ℕ) (l : Layout) (i : ℕ) (r : Node) → good_node s l i r ≡ true → Tested s l i r
unfolding good_node good_kind
tested s l i r h =
    let front : both (is_kind r.number) (eqb r.zeroed 0) ≡ true = both_left _ _ h in
    let back = chosen false≢true _ _ (both_right _ _ h) in
    record { is-kind = both_left _ _ front; zeroed = eqb-true r.zeroed 0 (both_right _ _ front); places = back.0; smaller = back.1 }

-- ---- the count

module _ (s : List ℕ) (l : Layout) (n : ℕ) (tests : (i : ℕ) → i < n → Tested s l i (node_at s (record_of l i))) where
  -- a node's shape asks for the shapes of the nodes below alone
  shape_same : {f g : ℕ → Shape} (i : ℕ) → i < n → ((c : ℕ) → c < i → f c ≡ g c)
      → shape_by f s l i (node_at s (record_of l i)) ≡ shape_by g s l i (node_at s (record_of l i))
  unfolding shape_by
  shape_same i m e = ap (node (node_kind (node_at s (record_of l i)))) (shapes-same s i e _ _ (tests i m).smaller)

  count_same : (f g i : ℕ) → i < f → i < g → i < n → shape_f f s l i ≡ shape_f g s l i
  unfolding shape_f
  count_same zero g i h k m = absurd (not-suc-le-zero h)
  count_same (suc f) zero i h k m = absurd (not-suc-le-zero k)
  count_same (suc f) (suc g) i h k m = shape_same i m (λ c b. count_same f g c (omega arith) (omega arith) (omega arith))

  -- one step, with the count gone
  pub node-shape : (i : ℕ) → i < n → node_shape s l i ≡ shape_by (node_shape s l) s l i (node_at s (record_of l i))
  unfolding node_shape shape_f
  node-shape i m = shape_same i m (λ c b. count_same i (suc c) c b (omega arith) (omega arith))

  -- ---- chains of children

  deepest-within : (f : ℕ → Shape) (i most : ℕ) → ((c : ℕ) → c < i → depth (f c) ≤ most) → (from n : ℕ) → below s i from n ≡ true → deepest (shapes_at f s from n) ≤ most
  unfolding shapes_at below deepest
  deepest-within f i most e from zero h = omega arith
  deepest-within f i most e from (suc n) h =
      let one = e (u16_at s from) (ltb-true (u16_at s from) i (both_left _ _ h)) in
      let others = deepest-within f i most e (from + 2) n (both_right _ _ h) in
      omega arith

  depth-up-to : (bound i : ℕ) → i < bound → i < n → depth (node_shape s l i) ≤ suc i
  unfolding shape_by depth
  depth-up-to zero i h b = absurd (not-suc-le-zero h)
  depth-up-to (suc bound) i h b =
      rw (node-shape i b)
      (omega (arith, deepest-within (node_shape s l) i i (λ c k. let e = depth-up-to bound c (omega arith) (omega arith) in omega arith) _ _ (tests i b).smaller))

  -- a node's chain is at most as long as there are nodes up to it, since children are below their nodes
  pub depth-within : (i : ℕ) → i < n → depth (node_shape s l i) ≤ suc i
  depth-within i b = depth-up-to (suc i) i (omega arith) b

deepest-at : (f : ℕ → Shape) (s : List ℕ) (from n c : ℕ) → c < n → depth (f (u16_at s (from + 2 * c))) ≤ deepest (shapes_at f s from n)
unfolding shapes_at deepest
deepest-at f s from zero c b = absurd (not-suc-le-zero b)
deepest-at f s from (suc n) zero b = rw (add-zero from) (omega arith)
deepest-at f s from (suc n) (suc c) b = rw (next_place from c) (let e = deepest-at f s (from + 2) n c (omega arith) in omega arith)

-- a child's chain is shorter than its node's
pub child-shorter : {s : List ℕ} {l : Layout} → GoodTable s l → {i : ℕ} → i < l.nodes → (c : ℕ) → c < node_count (node_at s (record_of l i))
    → depth (node_shape s l (node_child s l i (node_at s (record_of l i)) c)) < depth (node_shape s l i)
unfolding depth
child-shorter {s} {l} g {i} b c k =
    let r = node_at s (record_of l i) in
    rw (g.node-good i b).its_shape (omega (arith, deepest-at (node_shape s l) s (node_first l i r) (node_count r) c k))

-- ---- the check

bad-good : {e : Refusal} {i : ℕ} {l : Layout} → Bad e i ≡ Good l → ⊥
bad-good h = let z : ◌≡◌ {A = ℕ} 0 1 = cc in omega arith

record Goods (form : TableForm) (s : List ℕ) (l m : Layout) (i n : ℕ) : Type 0 where
  itself : l ≡ m
  each : (j : ℕ) → i ≤ j → j < i + n → good_in form s l j ≡ true

from-goods : (form : TableForm) (s : List ℕ) (l m : Layout) (i n : ℕ) → check_from form s l i n ≡ Good m → Goods form s l m i n
unfolding check_from
from-goods form s l m i zero h = record { itself = cc; each = λ j a b. absurd (omega arith) }
from-goods form s l m i (suc n) h =
    let head = chosen bad-good _ _ h in
    let rest = from-goods form s l m (i + 1) n head.1 in
    record { itself = rest.itself; each = λ j a b. by-eq i j (λ e. rw e at head.0) (λ ne. rest.each j (omega arith) (omega arith)) }

-- the check's three tests
record Passed (form : TableForm) (s : List ℕ) (l : Layout) (end : ℕ) : Type 0 where
  long : end + size_of form ≡ length s
  laid : layout_at (ending_at form s end) end ≡ l
  trailer : good_trailer form (ending_at form s end) end ≡ true
  nodes : (i : ℕ) → i < l.nodes → good_in form s l i ≡ true

passed : (form : TableForm) (s : List ℕ) (l : Layout) → check_as form s ≡ Good l → Passed form s l (length s - size_of form)
unfolding check_as check_at layout_at
passed form s l h =
    let end : ℕ = length s - size_of form in
    let length-test = chosen bad-good _ _ h in
    let trailer-test = chosen bad-good _ _ length-test.1 in
    let g = from-goods form s (layout_at (ending_at form s end) end) l 0 (ending_at form s end).n trailer-test.1 in
    record {
      long = omega (arith, leb-true (size_of form) (length s) length-test.0);
      laid = g.itself;
      trailer = trailer-test.0;
      nodes = λ i b. rw g.itself at (g.each i (omega arith) (let b' = rw (sym g.itself) at b in omega arith));
    }

-- ---- where the parts stand

record Laid (nodes : ℕ) (l : Layout) (end : ℕ) : Type 0 where
  some-nodes : 1 ≤ l.nodes
  few-nodes : l.nodes ≤ nodes
  root_below : l.root < l.nodes
  records-end : l.records + 6 * l.nodes ≡ l.children
  children-end : l.children + 2 * l.places ≡ end

trailer-laid : (form : TableForm) (t : Ending) (end : ℕ) → good_trailer form t end ≡ true → Laid (most_nodes form) (layout_at t end) end
unfolding good_trailer layout_at
trailer-laid form t end h =
    let g = numbers _ _ _ _ _ _ _ (both_right _ _ h) in
    record {
      some-nodes = g.some-nodes;
      few-nodes = g.few-nodes;
      root_below = g.rooted;
      records-end = omega (arith, g.apart, g.inside);
      children-end = omega (arith, g.even, g.apart, g.inside);
    }

-- the children's numbers stand in the record or in the child list
module _ (l : Layout) (i : ℕ) (h : record_of l i + 6 ≤ l.children) where
  pub inside : (k : Kind) (a b : ℕ) → good_places l k a b ≡ true → first_child l i k a + 2 * child_count k b ≤ l.children + 2 * l.places
  unfolding good_places first_child child_count
  inside (plain x) a b p = omega arith
  inside (pooled x) a b p = omega arith
  inside option a b p = omega arith
  inside sequence a b p = omega arith
  inside map a b p = omega arith
  inside struct a b p = omega (arith, leb-true (a + b) l.places (both_right _ _ p))
  inside enum a b p = omega (arith, leb-true (a + b) l.places (both_right _ _ p))

-- ---- what differs from form to form

few-in : (form : TableForm) → (most_nodes form ≤ 4096) × (4 ≤ size_of form)
unfolding most_nodes size_of
few-in first = (omega arith, omega arith)
few-in second = (omega arith, omega arith)

root_in : (form : TableForm) (s : List ℕ) (end : ℕ) → end + size_of form ≡ length s → u16_at s (length s - 4) ≡ (layout_at (ending_at form s end) end).root
unfolding size_of layout_at ending_at
root_in first s end h = let e : length s - 4 ≡ end + 6 = omega arith in rw e
root_in second s end h = let e : length s - 4 ≡ end + 10 = omega arith in rw e

good-record : (form : TableForm) (s : List ℕ) (l : Layout) (i : ℕ) → good_in form s l i ≡ true → good_node s l i (node_at s (record_of l i)) ≡ true
unfolding good_in
good-record first s l i h = h
good-record second s l i h = (chosen false≢true _ _ h).0

-- in the first form there are too few nodes for a long chain
short-in : (form : TableForm) (s : List ℕ) (l : Layout) (i : ℕ) → i < most_nodes form → good_in form s l i ≡ true → depth (node_shape s l i) ≤ suc i → depth (node_shape s l i) ≤ 256
unfolding most_nodes good_in short_chain chain_of node_shape
short-in first s l i b h d = omega arith
short-in second s l i b h d = leb-true _ 256 (chosen false≢true _ _ h).1

-- ---- what a good check tells

module _ (form : TableForm) (s : List ℕ) (l : Layout) (h : check_as form s ≡ Good l) where
  abbrev end : ℕ
  end = length s - size_of form

  p : Passed form s l end
  p = passed form s l h

  laid : Laid (most_nodes form) l end
  laid = rw p.laid at (trailer-laid form (ending_at form s end) end p.trailer)

  tests : (i : ℕ) → i < l.nodes → Tested s l i (node_at s (record_of l i))
  tests i b = tested s l i (node_at s (record_of l i)) (good-record form s l i (p.nodes i b))

  record-in : (i : ℕ) → i < l.nodes → record_of l i + 6 ≤ l.children
  unfolding record_of
  record-in i b = omega (arith, laid.records-end)

  at : (i : ℕ) → i < l.nodes → Tested s l i (node_at s (record_of l i)) → GoodNode s l i (node_at s (record_of l i))
  at i b t = record {
    is-kind = t.is-kind;
    zeroed = t.zeroed;
    places = t.places;
    record-inside = record-in i b;
    children-inside = inside l i (record-in i b) _ _ _ t.places;
    children-below = below_at s i _ _ t.smaller;
    its_shape = unfold shape_by in node-shape s l l.nodes tests i b;
  }

  table-in : GoodTable s l
  table-in = record {
    some-nodes = laid.some-nodes;
    root_below = laid.root_below;
    records-end = laid.records-end;
    children-end = omega (arith, laid.children-end, p.long, (few-in form).1);
    root_stands = rw p.laid at (root_in form s end p.long);
    node-good = λ i b. at i b (tests i b);
    its_shape = unfold shape_of node_shape in count_same s l l.nodes tests l.nodes (suc l.root) l.root laid.root_below (omega arith) laid.root_below;
    short-chains = λ i b. short-in form s l i (omega (arith, laid.few-nodes)) (p.nodes i b) (depth-within s l l.nodes tests i b);
  }

  limits-in : Limits l
  limits-in = record { few-nodes = omega (arith, laid.few-nodes, (few-in form).0) }

pub good-table : (s : List ℕ) (l : Layout) → check s ≡ Good l → GoodTable s l
unfolding check
good-table s l h = table-in (table_form s) s l h

pub within-limits : (s : List ℕ) (l : Layout) → check s ≡ Good l → Limits l
unfolding check
within-limits s l h = limits-in (table_form s) s l h
