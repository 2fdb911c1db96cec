-- Four and eight bytes as a number: digits in base 256 that the code sums are the number of their list.
-- Assumes nothing.
use mathlib.Core.Path.{◌≡◌, refl, sym, ap}
use mathlib.Core.List.{List, [], ◌∷◌}
use Prim.Native.Nat.{ℕ, ◌+◌, ◌*◌, ◌<◌, ◌≤◌}
use native.Mathlib.Omega.{arith}
use lib.ListN.{length, get_or, take, drop, replicate, length-drop}
use Rattle.wire.specs.Shape.{le}
use Rattle.wire.specs.Numbers.{little, in_order}
use Rattle.laws.specs.Range.{AreBytes}
use Rattle.laws.proofs.Bytes.{below-drop, front-lt}
use Rattle.laws.proofs.Parts.{next}

step : (s : List ℕ) (i j : ℕ) → i + 1 ≡ j → i < length s → drop i s ≡ get_or s i 0 ∷ drop j s
step s i j e h = rw (sym e) (next s i h)

module _ (s : List ℕ) (at : ℕ) where
  pub four-number : at + 4 ≤ length s → get_or s at 0 + 256 * (get_or s (at + 1) 0 + 256 * (get_or s (at + 2) 0 + 256 * get_or s (at + 3) 0)) ≡ little (take 4 (drop at s))
  unfolding little
  four-number h =
      rw (step s at (at + 1) refl (omega arith), step s (at + 1) (at + 2) (omega arith) (omega arith), step s (at + 2) (at + 3) (omega arith) (omega arith), step s (at + 3) (at + 4) (omega arith) (omega arith))
      (omega arith)

  pub four-lt : {x : ℕ} → x ≡ little (take 4 (drop at s)) → AreBytes s → at + 4 ≤ length s → x < 4294967296
  unfolding in_order
  four-lt is h l = rw is (front-lt le 4 (drop at s) (below-drop 256 at s h) (simp length-drop (omega arith)))

  pub both-number : {low high : ℕ} → at + 8 ≤ length s → low ≡ little (take 4 (drop at s)) → high ≡ little (take 4 (drop (at + 4) s)) → low + 4294967296 * high ≡ little (take 8 (drop at s))
  unfolding little
  both-number inside front behind =
      rw (front, behind, step s at (at + 1) refl (omega arith), step s (at + 1) (at + 2) (omega arith) (omega arith), step s (at + 2) (at + 3) (omega arith) (omega arith), step s (at + 3) (at + 4) (omega arith) (omega arith))
      (omega arith)

-- a number is zero only if each of its bytes is
pub all-zero : (s : List ℕ) → little s ≡ 0 → s ≡ replicate (length s) 0
unfolding little
all-zero [] e = refl
all-zero (b ∷ s) e =
    let none : b ≡ 0 = omega arith in
    let behind : s ≡ replicate (length s) 0 = all-zero s (omega arith) in
    rw none (ap (λ (t : List ℕ). 0 ∷ t) behind)
