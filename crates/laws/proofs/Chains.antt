-- A node's chain is found from its children's, which are in front of it, so that a list of the chains so far is enough.
-- Assumes nothing.
use mathlib.Core.Path.{◌≡◌, refl, sym, ap, ap₂, ◌∙◌}
use mathlib.Core.Bool.{true}
use mathlib.Core.List.{List}
use Prim.Native.Nat.{ℕ, zero, suc, max, ◌+◌, ◌<◌}
use native.Mathlib.Nat.{not-suc-le-zero}
use native.Mathlib.Omega.{arith}
use lib.ListN.{length, get_or, set}
use lib.Seq.{get_or-set_same, get_or-set_other}
use borrow.Author.Tests.{ltb-true}
use Rattle.wire.specs.declared.Layout.{Layout}
use Rattle.wire.specs.Shape.{depth, deepest}
use Rattle.wire.specs.Table.{u16_at, node_at, record_of, below, good_node, shapes_at, shape_by, chain_of}
use Rattle.laws.specs.Tables.{node_first, node_count, node_shape}
use Rattle.laws.specs.Chains.{longest_at, kept_chain, Kept}
use Rattle.laws.proofs.Splits.{up_to, both_left, both_right}
use Rattle.laws.proofs.Tables.{tested, node-shape}

-- only the children are asked for
longest-same : (s : List ℕ) (f g : ℕ → ℕ) (i : ℕ) → ((c : ℕ) → c < i → f c ≡ g c) → (from n : ℕ) → below s i from n ≡ true → longest_at f s from n ≡ longest_at g s from n
unfolding longest_at below
longest-same s f g i e from zero h = refl
longest-same s f g i e from (suc n) h =
    ap₂ max (e (u16_at s from) (ltb-true (u16_at s from) i (both_left _ _ h))) (longest-same s f g i e (from + 2) n (both_right _ _ h))

module _ (s : List ℕ) (l : Layout) where
  pub chain-is-depth : (i : ℕ) → chain_of s l i ≡ depth (node_shape s l i)
  unfolding chain_of node_shape
  chain-is-depth i = refl

  deepest-same : (from n : ℕ) → deepest (shapes_at (node_shape s l) s from n) ≡ longest_at (chain_of s l) s from n
  unfolding shapes_at deepest longest_at chain_of node_shape
  deepest-same from zero = refl
  deepest-same from (suc n) = rw (deepest-same (from + 2) n)

  chain-by-children : (n : ℕ) → ((j : ℕ) → j < n → good_node s l j (node_at s (record_of l j)) ≡ true) → (i : ℕ) → i < n
      → chain_of s l i ≡ suc (longest_at (chain_of s l) s (node_first l i (node_at s (record_of l i))) (node_count (node_at s (record_of l i))))
  unfolding shape_by depth
  chain-by-children n h i b =
      chain-is-depth i
      ∙ ap depth (node-shape s l n (λ j k. tested s l j (node_at s (record_of l j)) (h j k)) i b)
      ∙ ap suc (deepest-same _ _)

module _ {s : List ℕ} {l : Layout} {chains : List ℕ} {i : ℕ} (k : Kept s l chains i) (good : good_node s l i (node_at s (record_of l i)) ≡ true) where
  goods-next : (j : ℕ) → j < i + 1 → good_node s l j (node_at s (record_of l j)) ≡ true
  goods-next = up_to (λ j. good_node s l j (node_at s (record_of l j)) ≡ true) i k.goods good

  pub kept-chain : kept_chain s l chains i (node_at s (record_of l i)) ≡ chain_of s l i
  unfolding kept_chain
  kept-chain =
      ap suc (longest-same s (λ child. get_or chains child 0) (chain_of s l) i k.held _ _ (tested s l i (node_at s (record_of l i)) good).smaller)
      ∙ sym (chain-by-children s l (i + 1) goods-next i (omega arith))

  pub kept_next : i < length chains → (c : ℕ) → c ≡ chain_of s l i → Kept s l (set chains i c) (i + 1)
  kept_next room c e = record {
    goods = goods-next;
    held =
        up_to (λ j. get_or (set chains i c) j 0 ≡ chain_of s l j) i (λ j b. get_or-set_other chains i j c 0 (λ same. omega arith) ∙ k.held j b) (get_or-set_same chains i c 0 room ∙ e);
  }

pub kept-none : (s : List ℕ) (l : Layout) (chains : List ℕ) → Kept s l chains 0
kept-none s l chains = record { goods = λ j b. absurd (not-suc-le-zero b); held = λ j b. absurd (not-suc-le-zero b) }
