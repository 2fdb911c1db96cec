-- The kinds by their numbers: which are leaves, which of them know their place, and where their offsets end.
-- Assumes nothing.
use mathlib.Core.Path.{◌≡◌, refl}
use mathlib.Core.Bool.{true, false, not}
use mathlib.Core.List.{List}
use Prim.Native.Nat.{ℕ, zero, suc, ◌+◌, ◌-◌, ◌<◌, ◌≤◌, ◌^◌}
use native.Mathlib.Omega.{arith}
use lib.ListN.{length, take}
use lib.Seq.{get_or-take}
use lib.Dec.{eqb}
use borrow.Author.Tests.{lt-ltb, le-ltb, not-true}
use Rattle.wire.specs.declared.Refusal.TheVariants.{End, Record}
use Rattle.wire.specs.declared.Own.{Own}
use Rattle.wire.specs.Item.{Item}
use Rattle.wire.specs.Item.{Took, Refused}
use Rattle.wire.specs.Tests.{pick, both}
use Rattle.wire.specs.Shape.{w64, Order, unsigned, unit, fixed, Content, Kind, plain, pooled, option, sequence, map, struct, enum}
use Rattle.wire.specs.Table.{kinds, is_kind, kind_of}
use Rattle.wire.specs.Values.{is_pooled}
use Rattle.wire.specs.Reading.{read_plain, head}
use Rattle.laws.specs.Bounds.{Fits, takes}
use Rattle.laws.specs.KindRanges.{is_alone, is_leaf, sixth}
use Rattle.laws.proofs.Splits.{by-eq}
use Rattle.laws.proofs.Rule.{at}
use Rattle.laws.proofs.Bounds.{head-fits}
use Rattle.laws.proofs.KindRanges.{low-alone, high-alone}
use Rattle.laws.proofs.Offsets.{pooled-ends}
use Rattle.texts.specs.Contents.{content_if}
use Rattle.leaf.specs.Leaves.{leaf_take_at, Within}

-- to unfold this is to compute a kind from its number
unfoldable pub numbered : ℕ
unfolding kinds kind_of head read_plain
numbered = 0

-- ---- which numbers are leaves

pub low-leaf : (k : ℕ) → k < 15 → is_leaf k ≡ true
unfolding is_leaf is_kind kinds both
low-leaf k h = rw (lt-ltb k 32 (omega arith)) (low-alone k h)

pub high-leaf : (k : ℕ) → 20 ≤ k → k ≤ 31 → is_leaf k ≡ true
unfolding is_leaf is_kind kinds both
high-leaf k l h = rw (lt-ltb k 32 (omega arith)) (high-alone k l h)

pub inner-leaf : (k : ℕ) → 15 ≤ k → k ≤ 19 → is_leaf k ≡ false
unfolding is_leaf is_kind kinds kind_of is_alone both
inner-leaf k l h = let e : 15 + (k - 15) ≡ k = omega arith in rw e at (go (k - 15) (omega arith))
  where
    go : (j : ℕ) → j ≤ 4 → is_leaf (15 + j) ≡ false
    go zero h = refl
    go (suc zero) h = refl
    go (suc (suc zero)) h = refl
    go (suc (suc (suc zero))) h = refl
    go (suc (suc (suc (suc zero)))) h = refl
    go (suc (suc (suc (suc (suc j))))) h = absurd (omega arith)

pub no-leaf : (k : ℕ) → 32 ≤ k → is_leaf k ≡ false
unfolding is_leaf is_kind kinds both
no-leaf k h = rw (le-ltb k 32 h)

-- ---- kinds that one arm serves

pub sixth-last : (o : Order) (k : ℕ) → 5 ≤ k → sixth o k ≡ fixed o unsigned w64
unfolding sixth
sixth-last o zero h = absurd (omega arith)
sixth-last o (suc zero) h = absurd (omega arith)
sixth-last o (suc (suc zero)) h = absurd (omega arith)
sixth-last o (suc (suc (suc zero))) h = absurd (omega arith)
sixth-last o (suc (suc (suc (suc zero)))) h = absurd (omega arith)
sixth-last o (suc (suc (suc (suc (suc k))))) h = refl

pub content-kind : (k : ℕ) → 12 ≤ k → k ≤ 13 → kind_of k ≡ pooled (content_if (eqb k 12))
unfolding kind_of kinds content_if
content-kind k l h = by-eq k 12 (λ e. rw e) (λ f. let e : k ≡ 13 = omega (arith, f) in rw e)

-- ---- where the item stands

module _ (k p : ℕ) (s : List ℕ) where
  pub beyond : 2 ^ 64 ≤ p + length s → Refused End ≡ leaf_take_at k p s
  unfolding leaf_take_at pick
  beyond h = rw (le-ltb (p + length s) (2 ^ 64) h)

  module _ (h : p + length s < 2 ^ 64) where
    pub not-leaf : is_leaf k ≡ false → Refused Record ≡ leaf_take_at k p s
    unfolding leaf_take_at pick
    not-leaf e = rw (lt-ltb (p + length s) (2 ^ 64) h, e)

    pub is_leaf_lem : is_leaf k ≡ true → {r : Item} → r ≡ head (kind_of k) 0 p s → r ≡ leaf_take_at k p s
    unfolding leaf_take_at pick
    is_leaf_lem e q = rw (lt-ltb (p + length s) (2 ^ 64) h, e) q

-- only a text or bytes know their place
anywhere : (k : Kind) (p : ℕ) (s : List ℕ) → is_pooled k ≡ false → head k 0 0 s ≡ head k 0 p s
unfolding head is_pooled
anywhere (plain l) p s e = refl
anywhere (pooled c) p s e = cc
anywhere option p s e = refl
anywhere sequence p s e = refl
anywhere map p s e = refl
anywhere struct p s e = refl
anywhere enum p s e = refl

not-pooled : (k : ℕ) → k < 12 → is_pooled (kind_of k) ≡ false
unfolding kind_of kinds is_pooled
not-pooled k h = not-true _ (rw (get_or-take 12 kinds k (plain unit) h) at (at (plain unit) (λ j x. not (is_pooled x)) (take 12 kinds) refl k h))

pub low-place : (k p : ℕ) (s : List ℕ) → k < 12 → head (kind_of k) 0 0 s ≡ head (kind_of k) 0 p s
low-place k p s h = anywhere (kind_of k) p s (not-pooled k h)

-- a text's or bytes' offset is inside the part
pub content-within : (k : Content) (p : ℕ) (s : List ℕ) → p + length s < 2 ^ 64 → Within p (head (pooled k) 0 0 s)
unfolding Within
content-within k p s h = go (head (pooled k) 0 0 s) (head-fits (pooled k) 0 0 s) (λ own. pooled-ends k 0 s 0)
  where
    go : (i : Item) → Fits s i → ((own : Own) → i ≡ Took own → own.first + own.second ≡ 0 + own.used) → Within p i
    go (Took own) (takes l) e = omega (arith, e own refl)
    go (Refused w) f e = tt
