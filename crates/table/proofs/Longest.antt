-- A node's chain as the code finds it: one more than the longest of its children's, which are taken one after the other.
-- Assumes nothing.
use mathlib.Core.Path.{◌≡◌, ap, ◌∙◌}
use mathlib.Core.Bool.{true}
use mathlib.Core.List.{List}
use Prim.Native.Nat.{ℕ, suc, max, ◌+◌, ◌-◌, ◌<◌, ◌≤◌}
use native.Mathlib.Omega.{arith}
use lib.ListN.{get_or}
use Rattle.wire.specs.declared.Layout.{Layout}
use Rattle.wire.specs.Table.{u16_at, kind_of, node_at, record_of, first_child, child_count, good_node}
use Rattle.laws.specs.Tables.{node_first, node_count}
use Rattle.laws.specs.Chains.{longest_at, kept_chain}
use Rattle.laws.proofs.Tables.{tested, inside, below_at}
use Rattle.table.specs.Parts.{Inside, chain_at, Falls}

module _ (f : ℕ → ℕ) (s : List ℕ) (at left : ℕ) where
  pub longest-none : left ≤ 0 → longest_at f s at left ≡ 0
  unfolding longest_at
  longest-none h = let e : left ≡ 0 = omega arith in rw e

  longest-more : 0 < left → longest_at f s at left ≡ max (f (u16_at s at)) (longest_at f s (at + 2) (left - 1))
  unfolding longest_at
  longest-more h = let e : left ≡ suc (left - 1) = omega arith in ap (longest_at f s at) e

  -- one child more
  pub longest-turn : (so_far whole child : ℕ) → max so_far (longest_at f s at left) ≡ whole → 0 < left → child ≡ u16_at s at
      → max (max so_far (f child)) (longest_at f s (at + 2) (left - 1)) ≡ whole
  longest-turn so_far whole child e h c = rw c (omega (arith, e, longest-more h))

-- the children of a node whose record is good are in front of it
good-falls : (s : List ℕ) (l : Layout) (i : ℕ) → Inside s l → i < l.nodes → good_node s l i (node_at s (record_of l i)) ≡ true
    → Falls s (node_first l i (node_at s (record_of l i))) (node_count (node_at s (record_of l i))) i
good-falls s l i n h g =
    let t = tested s l i (node_at s (record_of l i)) g in
    record { inside = omega (arith, n.children, inside l i record-in _ _ _ t.places); below = below_at s i _ _ t.smaller }
  where
    record-in : record_of l i + 6 ≤ l.children
    record-in = unfold record_of in omega (arith, n.records)

-- a record that is read, and what its kind tells of its children
module _ (s : List ℕ) (l : Layout) (i at a b from count : ℕ) (here : at ≡ record_of l i) (ra : a ≡ u16_at s (at + 2)) (rb : b ≡ u16_at s (at + 4))
    (rf : from ≡ first_child l i (kind_of (get_or s at 0)) a) (rc : count ≡ child_count (kind_of (get_or s at 0)) b) where
  first-is : from ≡ node_first l i (node_at s (record_of l i))
  unfolding node_at
  first-is = rf ∙ rw (ra, here)

  count-is : count ≡ node_count (node_at s (record_of l i))
  unfolding node_at
  count-is = rc ∙ rw (rb, here)

  pub chain-falls : Inside s l → i < l.nodes → good_node s l i (node_at s (record_of l i)) ≡ true → Falls s from count i
  chain-falls n h g = rw (first-is, count-is) (good-falls s l i n h g)

  pub chain-kept : (chains : List ℕ) (longest : ℕ) → longest ≡ longest_at (chain_at chains) s from count → longest + 1 ≡ kept_chain s l chains i (node_at s (record_of l i))
  unfolding kept_chain
  chain-kept chains longest e = rw (e, first-is, count-is) (omega arith)
