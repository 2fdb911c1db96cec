-- Stretches of children's numbers: those of a good table's nodes fall, and a walk over what follows an item goes through a stretch so often.
-- Assumes nothing.
use mathlib.Core.Path.{◌≡◌, refl, ap, fun_ext, ◌∙◌}
use mathlib.Core.Bool.{Bool, true, false}
use mathlib.Core.List.{List}
use Prim.Native.Nat.{ℕ, suc, ◌+◌, ◌-◌, ◌*◌, ◌<◌, ◌≤◌}
use native.Mathlib.Nat.{add-zero}
use native.Mathlib.Omega.{arith}
use lib.ListN.{length}
use borrow.Author.Tests.{ltb-true}
use Rattle.wire.specs.declared.Layout.{Layout}
use Rattle.wire.specs.Checked.{Good}
use Rattle.wire.specs.Shape.{Kind, struct}
use Rattle.wire.specs.Walk.{Follow, each, only, following, is_known, Walk, Step, all, times, along, walk, walks}
use Rattle.wire.specs.Table.{u16_at, kinds, kind_of, Node, node_at, record_of, first_child, child_count, shapes_at, check}
use Rattle.laws.specs.Tables.{node_first, node_count, node_shape, GoodTable}
use Rattle.laws.proofs.Tables.{next_place, good-table}
use Rattle.laws.proofs.Children.{times_none, times_more, row-none, row_more, row-once, only-once, walk-node}
use Rattle.table.specs.Parts.{followed, Falls, fields_of, Flat, bare, alone, under, node_step, row_step, rounds_step, EndsBare}
use Rattle.table.specs.declared.Way.{Way}

-- ---- numbers that fall

module _ {s : List ℕ} {from n i : ℕ} (f : Falls s from n i) where
  pub falls-first : 0 < n → u16_at s from < i
  falls-first h = rw (add-zero from) at (f.below 0 h)

  pub falls-next : 0 < n → Falls s (from + 2) (n - 1) i
  falls-next h = record { inside = omega (arith, f.inside); below = λ c l. rw (← next_place from c) (f.below (suc c) (omega arith)) }

  pub falls_at : (v : ℕ) → v < n → Falls s (from + 2 * v) 1 i
  falls_at v h = record { inside = omega (arith, f.inside); below = λ c l. let e : from + 2 * v + 2 * c ≡ from + 2 * v = omega arith in rw e (f.below v h) }

  pub falls-followed : (way : Follow) → is_known way n ≡ true → Falls s (followed way from n).from (followed way from n).width i
  unfolding followed is_known
  falls-followed (each c) k = f
  falls-followed (only v) k = falls_at v (ltb-true v n k)

pub node-falls : {s : List ℕ} {l : Layout} {i : ℕ} → GoodTable s l → i < l.nodes
    → Falls s (node_first l i (node_at s (record_of l i))) (node_count (node_at s (record_of l i))) i
node-falls {i} g h = let n = g.node-good i h in record { inside = omega (arith, n.children-inside, g.children-end); below = n.children-below }

-- ---- a walk over them

module _ (w : Walk) (s : List ℕ) (l : Layout) where
  -- nodes one after the other: none, or the first one and the others
  module _ (from n : ℕ) (x : w.From) where
    pub row-end : n ≤ 0 → row_step w s l from n x ≡ w.nothing x
    unfolding row_step
    row-end h = row-none w (node_shape s l) s from n x h

    pub row_first : 0 < n → (i : ℕ) → i ≡ u16_at s from → row_step w s l from n x ≡ w.then (node_step w s l i) (row_step w s l (from + 2) (n - 1)) x
    unfolding row_step node_step
    row_first h i e = rw e (row_more w (node_shape s l) s from n x h)

  -- rounds: none, or one and the others
  module _ (c : ℕ) (h : Bool) (from n : ℕ) (x : w.From) where
    pub rounds-end : c ≤ 0 → rounds_step w s l c h from n x ≡ w.nothing x
    unfolding rounds_step
    rounds-end e = times_none w (under w h n (row_step w s l from n)) c x e

    pub rounds-first : 0 < c → rounds_step w s l c h from n x ≡ w.then (under w h n (row_step w s l from n)) (rounds_step w s l (c - 1) h from n) x
    unfolding rounds_step
    rounds-first e = times_more w (under w h n (row_step w s l from n)) c x e

  module _ (ends : EndsBare w) where
    -- one node, once
    pub rounds-once : (from : ℕ) (x : w.From) → rounds_step w s l 1 false from 1 x ≡ node_step w s l (u16_at s from) x
    unfolding rounds_step under row_step node_step
    rounds-once from x = row-once w (node_shape s l) s ends from x

    -- what follows an item
    pub along-followed : (way : Follow) (from n : ℕ) → is_known way n ≡ true → (x : w.From)
        → along w way (walks w (shapes_at (node_shape s l) s from n)) x
        ≡ rounds_step w s l (followed way from n).rounds false (followed way from n).from (followed way from n).width x
    unfolding rounds_step under row_step along followed is_known
    along-followed (each c) from n k x = refl
    along-followed (only v) from n k x = only-once w (node_shape s l) s ends from n v (ltb-true v n k) x

-- ---- a stretch that is one struct alone

pub fields-are : (l : Layout) (i a b : ℕ) (r : Node) → r.number ≡ 18 → a ≡ r.a → b ≡ r.b → record { headed = true; from = l.children + 2 * a; width = b } ≡ fields_of l i r
unfolding fields_of first_child child_count kind_of kinds
fields-are l i a b r e ea eb = rw (ea, eb, e)

module _ (w : Walk) (ends : EndsBare w) where
  one-node : (s : List ℕ) (l : Layout) (from : ℕ) (x : w.From) → row_step w s l from 1 x ≡ node_step w s l (u16_at s from) x
  unfolding row_step node_step all walk shapes_at
  one-node s l from x = ends _ x

  -- a struct is its fields under its entry
  struct-item : (k : Kind) → k ≡ struct → (m : ℕ) (fs : List (Step w)) (x : w.From)
      → w.item k m (λ a. along w (following k a) fs) x ≡ under w true m (all w fs) x
  unfolding under following along times
  struct-item k e m fs x = rw e (ap (λ f. w.item struct m (λ a. f) x) (fun_ext (ends (all w fs))))

module _ {s : List ℕ} {l : Layout} {i from n : ℕ} {way : Way} (g : GoodTable s l) (h : i ≤ l.nodes) where
  pub flat-falls : Flat s l i from n way → Falls s way.from way.width i
  unfolding fields_of
  flat-falls (bare f e) = rw e f
  flat-falls (alone {c} one is low k e) =
      let f = node-falls {i = c} g (omega arith) in
      rw e (record { inside = f.inside; below = λ j b. let e = f.below j b in omega arith })

  -- a walk over the numbers is one over the way
  module _ (w : Walk) (ends : EndsBare w) (flat : Flat s l i from n way) where
    flat-at : (x : w.From) → row_step w s l from n x ≡ under w way.headed way.width (row_step w s l way.from way.width) x
    flat-at x = go flat
      where
        go : Flat s l i from n way → row_step w s l from n x ≡ under w way.headed way.width (row_step w s l way.from way.width) x
        go (bare f e) = unfold under in rw e
        go (alone {c} one is low k e) =
            rw (e, one)
            (one-node w ends s l from x
            ∙ (rw (← is) (unfold node_step row_step fields_of in walk-node w (g.node-good c (omega arith)) x ∙ struct-item w ends _ k _ _ x)))

    pub flat-row : row_step w s l from n ≡ under w way.headed way.width (row_step w s l way.from way.width)
    flat-row = fun_ext flat-at

    -- so often
    pub flat-rounds : (c : ℕ) → rounds_step w s l c false from n ≡ rounds_step w s l c way.headed way.from way.width
    flat-rounds c = unfold rounds_step in ap (times w c) (unfold under in flat-row)

-- ---- the root, whose number stands in the trailer

module _ (s : List ℕ) {l : Layout} (good : check s ≡ Good l) (at : ℕ) (place : at + 4 ≡ length s) where
  pub root-number : u16_at s at ≡ l.root
  root-number = let here : at ≡ length s - 4 = omega arith in rw here (good-table s l good).root_stands

  pub root-falls : Falls s at 1 l.nodes
  root-falls =
      record { inside = omega arith; below = λ c h. let e : at + 2 * c ≡ at = omega arith in rw (e, root-number) (good-table s l good).root_below }
