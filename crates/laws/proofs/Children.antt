-- A walk over a node of a good table, and two such nodes compared: one step, in the table's own numbers.
-- Assumes nothing.
use mathlib.Core.Path.{◌≡◌, refl, sym, ap, ◌∙◌}
use mathlib.Core.Bool.{Bool, true, false}
use mathlib.Core.List.{List, []}
use Prim.Native.Nat.{ℕ, zero, suc, ◌+◌, ◌-◌, ◌*◌, ◌≤◌, ◌<◌}
use native.Mathlib.Nat.{add-zero, not-suc-le-zero}
use native.Mathlib.Numerals.{add-one}
use native.Mathlib.Omega.{arith}
use lib.ListN.{get_or}
use lib.Dec.{eqb}
use Rattle.wire.specs.declared.Refusal.TheVariants.{Room}
use Rattle.wire.specs.declared.Layout.{Layout}
use Rattle.wire.specs.Tests.{both}
use Rattle.wire.specs.Shape.{Shape, node, none, more, count}
use Rattle.wire.specs.Walk.{following, Walk, Step, all, times, nth, along, walk, walks}
use Rattle.wire.specs.Table.{u16_at, Node, node_at, shapes_at}
use Rattle.wire.specs.Append.{is_open, matches, firsts, is_open_root, appends}
use Rattle.wire.specs.Reading.{Head, Spot, refused, reading, fit}
use Rattle.laws.specs.Steps.{row}
use Rattle.laws.specs.Tables.{node_kind, node_first, node_count, node_shape, node_shapes, GoodNode}
use Rattle.laws.proofs.Splits.{both_right, not-both}
use Rattle.laws.proofs.Runs.{fit_none}
use Rattle.laws.proofs.Numbering.{same_number}
use Rattle.laws.proofs.Tables.{next_place}

-- ---- the children

module _ (f : ℕ → Shape) (s : List ℕ) where
  pub count-children : (from n : ℕ) → count (shapes_at f s from n) ≡ n
  unfolding count shapes_at
  count-children from zero = refl
  count-children from (suc n) = rw (count-children (from + 2) n, add-one)

  pub shapes-none : (from n : ℕ) → n ≤ 0 → shapes_at f s from n ≡ none
  unfolding shapes_at
  shapes-none from zero h = refl
  shapes-none from (suc n) h = absurd (not-suc-le-zero h)

  pub shapes-more : (from n : ℕ) → 0 < n → shapes_at f s from n ≡ more (f (u16_at s from)) (shapes_at f s (from + 2) (n - 1))
  unfolding shapes_at
  shapes-more from zero h = absurd (not-suc-le-zero h)
  shapes-more from (suc n) h = let e : n ≡ suc n - 1 = omega arith in ap (λ m. more (f (u16_at s from)) (shapes_at f s (from + 2) m)) e

module _ (w : Walk) where
  pub times_none : (g : Step w) (c : ℕ) (x : w.From) → c ≤ 0 → times w c g x ≡ w.nothing x
  unfolding times
  times_none g zero x h = refl
  times_none g (suc c) x h = absurd (not-suc-le-zero h)

  pub times_more : (g : Step w) (c : ℕ) (x : w.From) → 0 < c → times w c g x ≡ w.then g (times w (c - 1) g) x
  unfolding times
  times_more g zero x h = absurd (not-suc-le-zero h)
  times_more g (suc c) x h = let e : c ≡ suc c - 1 = omega arith in ap (λ m. w.then g (times w m g) x) e

  module _ (f : ℕ → Shape) (s : List ℕ) where
    pub row-none : (from n : ℕ) (x : w.From) → n ≤ 0 → row w (shapes_at f s from n) x ≡ w.nothing x
    unfolding all walk
    row-none from n x h = rw (shapes-none f s from n h)

    -- nodes one after the other, the first one first
    pub row_more : (from n : ℕ) (x : w.From) → 0 < n
        → row w (shapes_at f s from n) x ≡ w.then (walk w (f (u16_at s from))) (row w (shapes_at f s (from + 2) (n - 1))) x
    unfolding all walk
    row_more from n x h = rw (shapes-more f s from n h)

    -- the step of a child is the step of the node that its number names
    pub nth-children : (from n v : ℕ) → v < n → (x : w.From) → nth w (walks w (shapes_at f s from n)) v x ≡ walk w (f (u16_at s (from + 2 * v))) x
    unfolding nth walk shapes_at
    nth-children from zero v h x = absurd (not-suc-le-zero h)
    nth-children from (suc n) zero h x = rw (add-zero from)
    nth-children from (suc n) (suc v) h x = rw (next_place from v) (nth-children (from + 2) n v (omega arith) x)

    module _ (then-nothing : (g : Step w) (x : w.From) → w.then g w.nothing x ≡ g x) where
      -- one node, once, as a row of nodes
      pub row-once : (from : ℕ) (x : w.From) → times w 1 (row w (shapes_at f s from 1)) x ≡ walk w (f (u16_at s from)) x
      unfolding times all walk shapes_at
      row-once from x = then-nothing _ x ∙ then-nothing _ x

      pub only-once : (from n v : ℕ) → v < n → (x : w.From)
          → nth w (walks w (shapes_at f s from n)) v x ≡ times w 1 (row w (shapes_at f s (from + 2 * v) 1)) x
      only-once from n v h x = nth-children from n v h x ∙ sym (row-once (from + 2 * v) x)

-- ---- a node

-- a node's step is its item's
pub walk-node : (w : Walk) {s : List ℕ} {l : Layout} {i : ℕ} {r : Node} → GoodNode s l i r → (x : w.From)
    → walk w (node_shape s l i) x
    ≡ w.item (node_kind r) (node_count r) (λ a. along w (following (node_kind r) a) (walks w (node_shapes s l i r))) x
unfolding walk
walk-node w {s} {l} {i} {r} g x =
    ap (λ t. walk w t x) g.its_shape ∙ ap (λ n. w.item (node_kind r) n (λ a. along w (following (node_kind r) a) (walks w (node_shapes s l i r))) x) (count-children (node_shape s l) s (node_first l i r) (node_count r))

-- reading a node wants room before its bytes are looked at
pub read_none : (h : Head) (t : Shape) (x : Spot) → fit 0 (walk (reading h) t x) ≡ record { made = []; ends = refused Room x.place }
unfolding walk
read_none h (node k ts) x = fit_none h k _ _ x

-- ---- two nodes

-- a kind's number is the record's first byte
pub number-byte : (s : List ℕ) (at : ℕ) → (node_at s at).number ≡ get_or s at 0
unfolding node_at
number-byte s at = refl

module _ {s t : List ℕ} {l m : Layout} {i j : ℕ} {r q : Node} (g : GoodNode s l i r) (h : GoodNode t m j q) where
  -- two nodes match if their kinds' numbers are the same and their children match
  pub matches-nodes : matches (node_shape s l i) (node_shape t m j)
      ≡ both (eqb r.number q.number) (firsts (is_open (node_kind r)) (node_shapes s l i r) (node_shapes t m j q))
  unfolding matches
  matches-nodes = rw (g.its_shape, h.its_shape, same_number r.number q.number g.is-kind h.is-kind)

  pub appends-nodes : appends (node_shape s l i) (node_shape t m j)
      ≡ both (eqb r.number q.number) (firsts (is_open_root (node_kind r)) (node_shapes s l i r) (node_shapes t m j q))
  unfolding appends
  appends-nodes = rw (g.its_shape, h.its_shape, same_number r.number q.number g.is-kind h.is-kind)

-- what the counts of children alone tell
pub firsts-counts : (free : Bool) (f g : ℕ → Shape) (s t : List ℕ) (from at n m : ℕ)
    → firsts free (shapes_at f s from n) (shapes_at g t at m) ≡ true → (n ≤ m) × (free ≡ false → n ≡ m)
unfolding firsts shapes_at
firsts-counts free f g s t from at zero zero e = (omega arith, λ c. refl)
firsts-counts free f g s t from at zero (suc m) e = (omega arith, λ c. not-both e c)
firsts-counts free f g s t from at (suc n) zero e = not-both e refl
firsts-counts free f g s t from at (suc n) (suc m) e =
    let rest = firsts-counts free f g s t (from + 2) (at + 2) n m (both_right _ _ e) in
    let few = rest.0 in
    (omega arith, λ c. ap suc (rest.1 c))
