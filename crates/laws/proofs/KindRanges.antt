-- The kinds by ranges of their numbers: 0 to 14 have no children, by one computed test of the list of kinds; 20 to 31 are fixed-size integers, one by one.
-- Assumes nothing.
use mathlib.Core.Path.{◌≡◌, refl, sym}
use mathlib.Core.Bool.{true, false}
use Prim.Native.Nat.{ℕ, zero, suc, ◌+◌, ◌-◌, ◌<◌, ◌≤◌}
use native.Mathlib.Omega.{arith}
use lib.ListN.{take}
use lib.Seq.{get_or-take}
use lib.Dec.{leb}
use borrow.Author.Tests.{leb-true, le-leb}
use Rattle.wire.specs.Shape.{le, be, unit, Kind, plain, pooled, option, sequence, map, struct, enum}
use Rattle.wire.specs.Walk.{each, following}
use Rattle.wire.specs.Table.{kinds, kind_of}
use Rattle.laws.specs.KindRanges.{is_alone, IsInner, is_inner, sixth}
use Rattle.laws.proofs.Splits.{by-test, by-lt, not-both, both_yes, both_left, both_right}
use Rattle.laws.proofs.Rule.{at}

pub low-alone : (k : ℕ) → k < 15 → is_alone (kind_of k) ≡ true
unfolding kind_of kinds is_alone
low-alone k h = rw (get_or-take 15 kinds k (plain unit) h) at (at (plain unit) (λ j x. is_alone x) (take 15 kinds) refl k h)

six : (j : ℕ) → j ≤ 5 → (kind_of (20 + j) ≡ plain (sixth le j)) × (kind_of (26 + j) ≡ plain (sixth be j))
unfolding kind_of kinds sixth
six zero h = (refl, refl)
six (suc zero) h = (refl, refl)
six (suc (suc zero)) h = (refl, refl)
six (suc (suc (suc zero))) h = (refl, refl)
six (suc (suc (suc (suc zero)))) h = (refl, refl)
six (suc (suc (suc (suc (suc zero))))) h = (refl, refl)
six (suc (suc (suc (suc (suc (suc j)))))) h = absurd (omega arith)

pub little-kind : (k : ℕ) → 20 ≤ k → k ≤ 25 → kind_of k ≡ plain (sixth le (k - 20))
little-kind k l h = let e : 20 + (k - 20) ≡ k = omega arith in rw e at (six (k - 20) (omega arith)).0

pub big-kind : (k : ℕ) → 26 ≤ k → k ≤ 31 → kind_of k ≡ plain (sixth be (k - 26))
big-kind k l h = let e : 26 + (k - 26) ≡ k = omega arith in rw e at (six (k - 26) (omega arith)).1

pub high-alone : (k : ℕ) → 20 ≤ k → k ≤ 31 → is_alone (kind_of k) ≡ true
unfolding is_alone
high-alone k l h = by-lt k 26 (λ b. rw (little-kind k l (omega arith))) (λ b. rw (big-kind k b h))

-- ---- the kinds that have children

module _ (k : ℕ) where
  pub is-inner : is_inner k ≡ true → IsInner k
  unfolding is_inner
  is-inner e = (leb-true 15 k (both_left (leb 15 k) (leb k 19) e), leb-true k 19 (both_right (leb 15 k) (leb k 19) e))

  pub inner-is : IsInner k → true ≡ is_inner k
  unfolding is_inner
  inner-is h = sym (both_yes (leb 15 k) (leb k 19) (le-leb 15 k h.0) (le-leb k 19 h.1))

  pub not-inner : is_inner k ≡ false → IsInner k → ⊥
  not-inner e h = not-both (sym (inner-is h)) e

  pub inner-not : (IsInner k → ⊥) → false ≡ is_inner k
  inner-not h = by-test (is_inner k) (λ e. absurd (h (is-inner e))) sym

-- ---- nothing follows

pub alone-follows : (k : Kind) (a : ℕ) → is_alone k ≡ true → following k a ≡ each 0
unfolding is_alone following
alone-follows (plain l) a e = refl
alone-follows (pooled c) a e = refl
alone-follows option a e = not-both refl (sym e)
alone-follows sequence a e = not-both refl (sym e)
alone-follows map a e = not-both refl (sym e)
alone-follows struct a e = not-both refl (sym e)
alone-follows enum a e = not-both refl (sym e)
