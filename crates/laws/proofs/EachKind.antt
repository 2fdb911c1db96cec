-- What holds of each kind in a part of the list of kinds holds of each number's kind there.
-- Assumes nothing.
use mathlib.Core.Path.{◌≡◌, refl, ap, sym, subst, ◌∙◌}
use mathlib.Core.Bool.{true}
use mathlib.Core.List.{List, [], ◌∷◌}
use Prim.Native.Nat.{ℕ, zero, suc, ◌+◌, ◌-◌, ◌≤◌, ◌<◌}
use native.Mathlib.Nat.{le_of_suc-le-suc, not-suc-le-zero}
use native.Mathlib.Omega.{arith}
use lib.ListN.{length, get_or, take, drop, get_or-eq_default}
use lib.Seq.{get_or-take, get_or-drop}
use Rattle.wire.specs.Shape.{Plain, Content, unit, Kind, plain, pooled, option, sequence, map, struct, enum}
use Rattle.wire.specs.Table.{kinds, kind_of}
use Rattle.laws.specs.KindRanges.{is_alone, IsInner}
use Rattle.laws.proofs.Splits.{by-lt, not-both}
use Rattle.laws.proofs.KindRanges.{low-alone, high-alone}

infixr 20 ◌&◌
pub data Each (P : Kind → Type 0) : List Kind → Type 0 where
  end : Each P []
  ◌&◌ : {k : Kind} {ks : List Kind} → P k → Each P ks → Each P (k ∷ ks)

each_at : {P : Kind → Type 0} (d : Kind) {ks : List Kind} → Each P ks → (i : ℕ) → i < length ks → P (get_or ks i d)
each_at d end i h = absurd (not-suc-le-zero h)
each_at d (p & ps) zero h = p
each_at d (p & ps) (suc i) h = each_at d ps i (le_of_suc-le-suc h)

-- the n numbers from `lo` on
pub in-kinds : (P : Kind → Type 0) (lo n : ℕ) → n ≡ length (take n (drop lo kinds)) → Each P (take n (drop lo kinds))
    → (k : ℕ) → lo ≤ k → k < lo + n → P (kind_of k)
unfolding kind_of
in-kinds P lo n e ps k l h =
    let back : lo + (k - lo) ≡ k = omega arith in
    subst P (get_or-take n (drop lo kinds) (k - lo) (plain unit) (omega arith) ∙ get_or-drop lo kinds (k - lo) (plain unit) ∙ ap (λ i. get_or kinds i (plain unit)) back)
    (each_at (plain unit) ps (k - lo) (rw (← e) (omega arith)))

-- the numbers that stand for no children: below 15 and above 19
module _ (P : Kind → Type 0) (p : (x : Plain) → P (plain x)) (q : (c : Content) → P (pooled c)) where
  alone : (k : Kind) → is_alone k ≡ true → P k
  unfolding is_alone
  alone (plain x) e = p x
  alone (pooled c) e = q c
  alone option e = not-both refl (sym e)
  alone sequence e = not-both refl (sym e)
  alone map e = not-both refl (sym e)
  alone struct e = not-both refl (sym e)
  alone enum e = not-both refl (sym e)

  pub low-kinds : (k : ℕ) → k < 15 → P (kind_of k)
  low-kinds k h = alone (kind_of k) (low-alone k h)

  pub high-kinds : (k : ℕ) → 19 < k → P (kind_of k)
  unfolding kinds kind_of
  high-kinds k l =
      by-lt k 32 (λ h. alone (kind_of k) (high-alone k l (omega arith)))
      (λ h. rw (get_or-eq_default kinds (plain unit) h) (p unit))

  pub outer-kinds : (k : ℕ) → (IsInner k → ⊥) → P (kind_of k)
  outer-kinds k outer = by-lt k 15 (low-kinds k) (λ h. by-lt 19 k (high-kinds k) (λ g. absurd (outer (h, g))))
