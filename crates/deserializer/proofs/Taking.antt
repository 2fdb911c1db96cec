-- Which kinds are taken, and what a leaf's item at a place of the message answers.
-- Assumes nothing.
use mathlib.Core.Path.{◌≡◌, sym, ◌∙◌}
use mathlib.Core.Bool.{true, false}
use mathlib.Core.List.{List}
use Prim.Native.Nat.{ℕ, ◌+◌, ◌-◌, ◌<◌, ◌≤◌, ◌^◌}
use native.Mathlib.Omega.{arith}
use lib.ListN.{length, take, drop, length-drop}
use borrow.Author.Tests.{lt-ltb, le-ltb, le-leb, lt-leb}
use Rattle.wire.specs.declared.Refusal.TheVariants.{End, Record}
use Rattle.wire.specs.declared.Own.{Own}
use Rattle.wire.specs.Item.{Item}
use Rattle.wire.specs.Item.{Took, Refused}
use Rattle.wire.specs.TakeAnswer.{Refused as NotTaken}
use Rattle.wire.specs.Tests.{pick, both}
use Rattle.wire.specs.Table.{kinds, is_kind, kind_of}
use Rattle.wire.specs.Reading.{head}
use Rattle.wire.specs.Answers.{may_take, taken, takes}
use Rattle.laws.specs.Bounds.{Fits, takes as fits}
use Rattle.laws.proofs.Splits.{by-lt, not-both}
use Rattle.laws.proofs.Bounds.{head-fits}
use Rattle.laws.proofs.Parts.{tail}
use Rattle.laws.specs.KindRanges.{is_leaf}
use Rattle.leaf.specs.Leaves.{leaf_take_at}
use Rattle.leaf.proofs.Leaves.{low-leaf, high-leaf}

-- ---- which kinds

pub low : (k : ℕ) → k ≤ 13 → true ≡ may_take k
unfolding may_take pick
low k h = rw (lt-ltb k 14 (omega arith))

pub high : (k : ℕ) → 20 ≤ k → k ≤ 31 → true ≡ may_take k
unfolding may_take pick both is_kind kinds
high k l h = rw (le-ltb k 14 (omega arith), le-leb 20 k l, lt-ltb k 32 (omega arith))

pub between : (k : ℕ) → 14 ≤ k → k < 20 → false ≡ may_take k
unfolding may_take pick both
between k l h = rw (le-ltb k 14 l, lt-leb 20 k h)

pub above : (k : ℕ) → 32 ≤ k → false ≡ may_take k
unfolding may_take pick both is_kind kinds
above k h = rw (le-ltb k 14 (omega arith), le-leb 20 k (omega arith), le-ltb k 32 h)

-- a kind that is taken is a leaf's, and a byte
pub leaf : (k : ℕ) → may_take k ≡ true → (k < 32) × (is_leaf k ≡ true)
leaf k m =
    by-lt k 14 (λ a. (omega arith, low-leaf k (omega arith)))
    (λ a. by-lt k 20 (λ b. not-both m (sym (between k a b))) (λ b. by-lt k 32 (λ c. (c, high-leaf k b (omega arith))) (λ c. not-both m (sym (above k c)))))

-- ---- the answers

module _ (k p : ℕ) (message : List ℕ) where
  pub not_taken : may_take k ≡ false → NotTaken Record 0 ≡ takes k message p
  unfolding takes pick
  not_taken m = rw m

  module _ (m : may_take k ≡ true) where
    pub beyond : length message < p → NotTaken End p ≡ takes k message p
    unfolding takes pick
    beyond h = rw (m, lt-leb p (length message) h)

    module _ (h : p ≤ length message) (words : length message < 2 ^ 64) where
      -- the item's own answer, of the part that the code lends
      here : leaf_take_at k p (take (length message - p) (drop p message)) ≡ head (kind_of k) 0 p (drop p message)
      unfolding leaf_take_at pick
      here = rw (tail message p, lt-ltb (p + length (drop p message)) (2 ^ 64) (omega (arith, length-drop p message)), (leaf k m).1)

      module _ {r : Item} (e : r ≡ leaf_take_at k p (take (length message - p) (drop p message))) where
        pub inside : {i : Item} → r ≡ i → taken p i ≡ takes k message p
        unfolding takes pick
        inside q = rw (m, le-leb p (length message) h, ← q, e, here)

        pub word : {own : Own} → r ≡ Took own → p + own.used < 2 ^ 64
        word {own} q = go _ (head-fits (kind_of k) 0 p (drop p message)) (sym q ∙ e ∙ here)
          where
            go : (i : Item) → Fits (drop p message) i → Took own ≡ i → p + own.used < 2 ^ 64
            go (Took got) (fits l) same = let u : own.used ≡ got.used = cc in omega (arith, length-drop p message)
            go (Refused w) f same = let z : ◌≡◌ {A = ℕ} 0 1 = cc in absurd (omega arith)
