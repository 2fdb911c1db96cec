-- A field is cut off where it ends, and the part behind a field is found in what is behind it.
-- Assumes nothing.
use mathlib.Core.Path.{◌≡◌, refl, ◌∙◌}
use mathlib.Core.Bool.{false}
use mathlib.Core.List.{List, []}
use Prim.Native.Nat.{ℕ, zero, suc, ◌+◌, ◌-◌, ◌≤◌, ◌<◌}
use native.Mathlib.Omega.{arith}
use lib.ListN.{length, take, drop, length-drop}
use lib.Seq.{take_all}
use lib.Dec.{eqb}
use borrow.Author.Tests.{lt-ltb, le-ltb, eq-eqb, ne_eqb}
use Rattle.wire.specs.Tests.{pick}
use Rattle.recorded.specs.Fields.{number_of, end_of, Ends, first_of, behind_of, part_of, is_whole}

module _ (s : List ℕ) where
  pub ends-short : length s < 2 → Ends s 0
  unfolding end_of pick
  ends-short lo = record { right = rw (lt-ltb (length s) 2 lo); within = omega arith }

  pub ends-cut : {n : ℕ} → 2 ≤ length s → n ≡ number_of (take 2 s) → length s - 2 < n → Ends s 0
  unfolding end_of pick
  ends-cut {n} hi e lo = record { right = rw (le-ltb (length s) 2 hi, ← e, lt-ltb (length s - 2) n lo); within = omega arith }

  pub ends_at : {n : ℕ} → 2 ≤ length s → n ≡ number_of (take 2 s) → n ≤ length s - 2 → Ends s (2 + n)
  unfolding end_of pick
  ends_at {n} hi e lo = record { right = rw (le-ltb (length s) 2 hi, ← e, le-ltb (length s - 2) n lo); within = omega arith }

pub tail : (s : List ℕ) (n : ℕ) → take (length s - n) (drop n s) ≡ drop n s
tail s n = take_all (length s - n) (drop n s) (simp length-drop (omega arith))

-- ---- a field by its number

module _ (s : List ℕ) where
  pub first-none : {r : ℕ} → Ends s r → r < 2 → ◌≡◌ {A = List ℕ} [] (first_of s)
  unfolding first_of
  first-none {r} h lo = let k : end_of s - 2 ≡ 0 = omega (arith, h.right) in rw k

  pub first-at : {r : ℕ} → Ends s r → take (r - 2) (drop 2 s) ≡ first_of s
  unfolding first_of
  first-at h = rw h.right

  pub behind-at : {r : ℕ} → Ends s r → take (length s - r) (drop r s) ≡ behind_of s
  unfolding behind_of
  behind-at {r} h = tail s r ∙ rw h.right

  pub part-more : (k : ℕ) → 0 < k → part_of (k - 1) (behind_of s) ≡ part_of k s
  unfolding part_of
  part-more zero lo = absurd (omega arith)
  part-more (suc k) lo = let e : suc k - 1 ≡ k = omega arith in rw e

  pub whole-more : (k : ℕ) → 0 < k → (end_of s ≡ 0 → ⊥) → is_whole (k - 1) (behind_of s) ≡ is_whole k s
  unfolding is_whole pick
  whole-more zero lo ends = absurd (omega arith)
  whole-more (suc k) lo ends = let e : suc k - 1 ≡ k = omega arith in rw (e, ne_eqb (end_of s) 0 ends)

  pub whole-cut : (k : ℕ) → 0 < k → end_of s ≡ 0 → false ≡ is_whole k s
  unfolding is_whole pick
  whole-cut zero lo ends = absurd (omega arith)
  whole-cut (suc k) lo ends = rw (eq-eqb (end_of s) 0 ends)

  pub part_none : (k : ℕ) → k ≤ 0 → first_of s ≡ part_of k s
  unfolding part_of
  part_none zero lo = refl
  part_none (suc k) lo = absurd (omega arith)

  pub whole-none : (k : ℕ) → k ≤ 0 → eqb (length s) 0 ≡ is_whole k s
  unfolding is_whole
  whole-none zero lo = refl
  whole-none (suc k) lo = absurd (omega arith)
