-- A pair of nodes in one step, and its children in one turn each, up to the first pair that does not match.
-- Assumes nothing.
use mathlib.Core.Path.{◌≡◌, sym, ◌∙◌, ap₂}
use mathlib.Core.Bool.{Bool, true, false}
use mathlib.Core.List.{List, [], ◌∷◌}
use Prim.Native.Nat.{ℕ, suc, ◌+◌, ◌-◌, ◌<◌, ◌≤◌}
use native.Mathlib.Omega.{arith}
use lib.ListN.{length}
use lib.Dec.{eqb}
use borrow.Author.Tests.{ne_eqb, eq-eqb}
use Rattle.wire.specs.declared.Layout.{Layout}
use Rattle.wire.specs.Tests.{pick, given}
use Rattle.wire.specs.Shape.{same_kind, Shape, node, Shapes, none, more, depth, deepest}
use Rattle.wire.specs.Table.{u16_at, Node, node_at, record_of, shapes_at}
use Rattle.wire.specs.Append.{matches}
use Rattle.laws.specs.Tables.{node_first, node_count, node_shape, node_shapes, GoodNode, GoodTable}
use Rattle.laws.proofs.Splits.{of-pick, of-given}
use Rattle.laws.proofs.Children.{shapes-none, shapes-more}
use Rattle.laws.proofs.Numbering.{same_number}
use Rattle.table.specs.Parts.{Falls}
use Rattle.table.proofs.Stretches.{falls-first, falls-next, node-falls}
use Rattle.parting.specs.Parting.{parting, parting_of}
use Rattle.append.specs.Compare.{Asked}
use Rattle.parting.specs.Pairs.{parting_at, Leads}

-- ---- children

module _ (f g : ℕ → Shape) (s t : List ℕ) where
  -- n old children and k new ones, from a position on
  abbrev pub Tail : (n k from at c : ℕ) → List ℕ
  Tail n k from at c = parting_of c (shapes_at f s from n) (shapes_at g t at k)

  pub tail-old : (n k from at c : ℕ) → n ≤ 0 → Tail n k from at c ≡ []
  unfolding parting_of
  tail-old n k from at c h = rw (shapes-none f s from n h)

  pub tail-new : (n k from at c : ℕ) → 0 < n → k ≤ 0 → Tail n k from at c ≡ []
  unfolding parting_of
  tail-new n k from at c h e = rw (shapes-more f s from n h, shapes-none g t at k e)

  module _ (n k from at c : ℕ) (some : 0 < n) (also : 0 < k) where
    pub tail_apart : false ≡ matches (f (u16_at s from)) (g (u16_at t at)) → Tail n k from at c ≡ c ∷ parting (f (u16_at s from)) (g (u16_at t at))
    unfolding parting_of pick
    tail_apart e = rw (shapes-more f s from n some, shapes-more g t at k also, ← e)

    pub tail-next : true ≡ matches (f (u16_at s from)) (g (u16_at t at)) → Tail (n - 1) (k - 1) (from + 2) (at + 2) (c + 1) ≡ Tail n k from at c
    unfolding parting_of pick
    tail-next e = rw (shapes-more f s from n some, shapes-more g t at k also, ← e)

-- ---- two nodes

-- where the search among the children stands: those that are left decide
pub record Left (s : List ℕ) (l : Layout) (i : ℕ) (t : List ℕ) (m : Layout) (j : ℕ) (n k from at c : ℕ) : Type 0 where
  pub same : Tail (node_shape s l) (node_shape t m) s t n k from at c ≡ parting_at s l i t m j
  pub olds : Falls s from n i
  pub news : Falls t at k j

abbrev Number : List ℕ → Layout → ℕ → ℕ
Number s l i = (node_at s (record_of l i)).number

module _ {s t : List ℕ} {l m : Layout} {i j : ℕ} {r q : Node} (g : GoodNode s l i r) (h : GoodNode t m j q) where
  parting-nodes : parting_at s l i t m j ≡ given (eqb r.number q.number) (λ _. parting_of 0 (node_shapes s l i r) (node_shapes t m j q)) []
  unfolding parting
  parting-nodes = rw (g.its_shape, h.its_shape, same_number r.number q.number g.is-kind h.is-kind)

-- the first things that a search finds: kinds' numbers x and y
module _ {s t : List ℕ} {l m : Layout} {i j x y : ℕ} {a : List ℕ} (asked : Asked s l i t m j a) (old : x ≡ Number s l i) (new : y ≡ Number t m j) where
  pub other-kinds : (x ≡ y → ⊥) → parting_at s l i t m j ≡ []
  unfolding given
  other-kinds ne =
      parting-nodes (asked.begun.old.node-good i asked.left) (asked.begun.new.node-good j asked.right) ∙ rw (← old, ← new, ne_eqb x y ne)

  pub left-start : {n k from at : ℕ} → x ≡ y → n ≡ node_count (node_at s (record_of l i)) → k ≡ node_count (node_at t (record_of m j))
      → from ≡ node_first l i (node_at s (record_of l i)) → at ≡ node_first m j (node_at t (record_of m j)) → Left s l i t m j n k from at 0
  unfolding given
  left-start e olds news f g = record {
    same =
        rw (olds, news, f, g)
        (sym (parting-nodes (asked.begun.old.node-good i asked.left) (asked.begun.new.node-good j asked.right)
        ∙ rw (eq-eqb (Number s l i) (Number t m j) (sym old ∙ e ∙ new))));
    olds = rw (f, olds) (node-falls asked.begun.old asked.left);
    news = rw (g, news) (node-falls asked.begun.new asked.right);
  }

-- no child is left
module _ {s t : List ℕ} {l m : Layout} {i j n k from at c : ℕ} (here : Left s l i t m j n k from at c) where
  pub left-old : n ≤ 0 → parting_at s l i t m j ≡ []
  left-old h = sym here.same ∙ tail-old _ _ s t n k from at c h

  pub left-new : 0 < n → k ≤ 0 → parting_at s l i t m j ≡ []
  left-new h e = sym here.same ∙ tail-new _ _ s t n k from at c h e

-- the turn of the old node p and the new node q
module _ {s t : List ℕ} {l m : Layout} {i j n k from at c p q : ℕ} {is : Bool} (here : Left s l i t m j n k from at c) (some : 0 < n) (also : 0 < k)
    (old : p ≡ u16_at s from) (new : q ≡ u16_at t at) (told : is ≡ matches (node_shape s l p) (node_shape t m q)) where
  turn : is ≡ matches (node_shape s l (u16_at s from)) (node_shape t m (u16_at t at))
  turn = told ∙ ap₂ (λ x y. matches (node_shape s l x) (node_shape t m y)) old new

  pub left-apart : is ≡ false → Leads s l i t m j c p q
  left-apart e = rw (old, new) (record {
    on = sym here.same ∙ tail_apart _ _ s t n k from at c some also (sym e ∙ turn);
    lower = falls-first here.olds some;
    below = falls-first here.news also;
  })

  pub left-next : is ≡ true → Left s l i t m j (n - 1) (k - 1) (from + 2) (at + 2) (c + 1)
  left-next e = record {
    same = tail-next _ _ s t n k from at c some also (sym e ∙ turn) ∙ here.same;
    olds = falls-next here.olds some;
    news = falls-next here.news also;
  }

-- ---- how far down

-- the way down is shorter than the old shape's longest chain of children
mutual
  unfolding parting depth

  pub short-way : (s t : Shape) → length (parting s t) < depth s
  short-way (node k ss) (node l ts) =
      of-given (λ p. length p < suc (deepest ss)) (same_kind k l) (λ _. parting_of 0 ss ts) [] (λ _. omega (arith, short-ways 0 ss ts)) (λ _. omega arith)

  short-ways : (c : ℕ) (ss ts : Shapes) → length (parting_of c ss ts) ≤ deepest ss
  short-ways c none ts = omega arith
  short-ways c (more s ss) none = omega arith
  short-ways c (more s ss) (more t ts) =
      of-pick (λ (f : Unit {0} → List ℕ). length (f tt) ≤ deepest (more s ss)) (matches s t) _ _
      (λ _. omega (arith, short-ways (c + 1) ss ts))
      (λ _. omega (arith, short-way s t))

-- so that from a good table's root it has fewer positions than a path has room for
pub few-positions : {s : List ℕ} {l : Layout} → GoodTable s l → (t : Shape) → length (parting (node_shape s l l.root) t) < 256
few-positions {s} {l} good t = omega (arith, short-way (node_shape s l l.root) t, good.short-chains l.root good.root_below)
