-- Adding the weight of a bit that is not set changes no other bit of a byte, and so none of the area.
-- Assumes nothing.
use mathlib.Core.Path.{◌≡◌, refl, ap, ◌∙◌, sym}
use mathlib.Core.Bool.{true, false}
use mathlib.Core.List.{List, [], ◌∷◌}
use mathlib.Core.Logic.{◌⊎◌, inl, inr}
use Prim.Native.Nat.{ℕ, zero, suc, ◌+◌, ◌-◌, ◌*◌, ◌/◌, ◌%◌, ◌^◌, ◌<◌, ◌≤◌}
use native.Mathlib.Nat.{one-mul, zero-div, add-mul-div_left, add-div_right}
use native.Mathlib.Omega.{arith}
use lib.Dec.{eqb}
use lib.Pow.{pow_pos, pow-add, shl_exact, shr-shr}
use lib.ListN.{length, get_or, set, replicate, length-set, length-replicate, get_or-replicate}
use lib.Seq.{get_or-set_same, get_or-set_other}
use borrow.Author.Tests.{eqb-false}
use Rattle.wire.specs.Tests.{pick}
use Rattle.wire.specs.Answers.{zeroed}
use Rattle.laws.proofs.Areas.{zeroed-at}
use Rattle.laws.proofs.Splits.{by-lt, by-eq, not-both, of-pick}
use Rattle.bits.specs.Marks.{marked, marking}

-- ---- a byte's bits

-- the weight of a bit, as the code shifts it
pub weight : (k : ℕ) → k < 8 → 1 * 2 ^ k % 256 ≡ 2 ^ k
weight k h = shl_exact {a = 1} 1 k 8 (omega arith) (omega arith) ∙ one-mul (2 ^ k)

-- a byte whose bit k is not set has room for it
pub room : (v k : ℕ) → k < 8 → v < 256 → v / 2 ^ k % 2 ≡ 0 → v + 2 ^ k < 256
room v zero l h e = omega arith
room v (suc zero) l h e = omega arith
room v (suc (suc zero)) l h e = omega arith
room v (suc (suc (suc zero))) l h e = omega arith
room v (suc (suc (suc (suc zero)))) l h e = omega arith
room v (suc (suc (suc (suc (suc zero))))) l h e = omega arith
room v (suc (suc (suc (suc (suc (suc zero)))))) l h e = omega arith
room v (suc (suc (suc (suc (suc (suc (suc zero))))))) l h e = omega arith
room v (suc (suc (suc (suc (suc (suc (suc (suc k)))))))) l h e = absurd (omega arith)

-- the bits below
low : (v c d : ℕ) → (v + 2 ^ (c + (1 + d))) / 2 ^ c % 2 ≡ v / 2 ^ c % 2
low v c d =
    ap (λ n. (v + n) / 2 ^ c % 2) (pow-add 2 c (1 + d)) ∙ ap (λ n. n % 2) (add-mul-div_left v (2 ^ (1 + d)) (pow_pos c))
    ∙ ap (λ n. (v / 2 ^ c + n) % 2) (pow-add 2 1 d) ∙ even (v / 2 ^ c) (2 ^ d)
  where
    even : (x y : ℕ) → (x + 2 * y) % 2 ≡ x % 2
    even x y = omega arith

-- and those above
high : (v a d : ℕ) → v / 2 ^ a % 2 ≡ 0 → (v + 2 ^ a) / 2 ^ (a + (1 + d)) ≡ v / 2 ^ (a + (1 + d))
high v a d z =
    sym (cut (v + 2 ^ a)) ∙ ap (λ n. n / 2 / 2 ^ d) (add-div_right v (pow_pos a)) ∙ ap (λ n. n / 2 ^ d) (half (v / 2 ^ a) z) ∙ cut v
  where
    cut : (x : ℕ) → x / 2 ^ a / 2 / 2 ^ d ≡ x / 2 ^ (a + (1 + d))
    cut x = shr-shr (x / 2 ^ a) 1 d ∙ shr-shr x a (1 + d)

    half : (x : ℕ) → x % 2 ≡ 0 → (x + 1) / 2 ≡ x / 2
    half x z = omega arith

other-bit : (v a c : ℕ) → (a ≡ c → ⊥) → v / 2 ^ a % 2 ≡ 0 → (v + 2 ^ a) / 2 ^ c % 2 ≡ v / 2 ^ c % 2
other-bit v a c n z =
    by-lt a c
    (λ l. let e : c ≡ a + (1 + (c - a - 1)) = omega arith in rw e (ap (λ n. n % 2) (high v a (c - a - 1) z)))
    (λ l. let e : a ≡ c + (1 + (a - c - 1)) = omega arith in rw e (low v c (a - c - 1)))

same_bit : (v a : ℕ) → v / 2 ^ a % 2 ≡ 0 → (v + 2 ^ a) / 2 ^ a % 2 ≡ 1
same_bit v a z = ap (λ n. n % 2) (add-div_right v (pow_pos a)) ∙ odd (v / 2 ^ a) z
  where
    odd : (x : ℕ) → x % 2 ≡ 0 → (x + 1) % 2 ≡ 1
    odd x z = omega arith

-- ---- the area's bits

bit-clear : (x : ℕ) → (x % 2 ≡ 1 → ⊥) → x % 2 ≡ 0
bit-clear x n = omega arith

bit-set : (x : ℕ) → (x % 2 ≡ 0 → ⊥) → x % 2 ≡ 1
bit-set x n = omega arith

module _ (a : List ℕ) (k : ℕ) where
  other : k / 8 < length a → get_or a (k / 8) 0 / 2 ^ (k % 8) % 2 ≡ 0 → (j : ℕ) → (j ≡ k → ⊥)
      → marked (set a (k / 8) (get_or a (k / 8) 0 + 2 ^ (k % 8))) j ≡ marked a j
  unfolding marked
  other l z j n =
      by-eq (j / 8) (k / 8)
      (λ e. rw (e, get_or-set_same a (k / 8) (get_or a (k / 8) 0 + 2 ^ (k % 8)) 0 l, other-bit (get_or a (k / 8) 0) (k % 8) (j % 8) (λ f. n (omega arith)) z))
      (λ e. rw (get_or-set_other a (k / 8) (j / 8) (get_or a (k / 8) 0 + 2 ^ (k % 8)) 0 e))

  clear : marked a k ≡ false → get_or a (k / 8) 0 / 2 ^ (k % 8) % 2 ≡ 0
  unfolding marked
  clear f = let e : eqb (get_or a (k / 8) 0 / 2 ^ (k % 8) % 2) 1 ≡ false = f in bit-clear _ (eqb-false _ 1 e)

  set-it : k / 8 < length a → marked a k ≡ false → marked (set a (k / 8) (get_or a (k / 8) 0 + 2 ^ (k % 8))) k ≡ true
  unfolding marked
  set-it l f = rw (get_or-set_same a (k / 8) (get_or a (k / 8) 0 + 2 ^ (k % 8)) 0 l, same_bit (get_or a (k / 8) 0) (k % 8) (clear f))

  -- bit k is marked, and what was
  pub marking-it : k / 8 < length a → marked (marking a k) k ≡ true
  unfolding marking
  marking-it l = of-pick (λ m. marked m k ≡ true) (marked a k) _ _ (λ e. e) (λ f. set-it l f)

  pub marking-keeps : k / 8 < length a → (j : ℕ) → marked a j ≡ true → marked (marking a k) j ≡ true
  unfolding marking
  marking-keeps l j e =
      of-pick (λ m. marked m j ≡ true) (marked a k) _ _ (λ _. e)
      (λ f. by-eq j k (λ q. rw q (set-it l f)) (λ q. other l (clear f) j q ∙ e))

  pub length-marking : length (marking a k) ≡ length a
  unfolding marking
  length-marking = of-pick {X = List ℕ} (λ (m : List ℕ). length m ≡ length a) (marked a k) _ _ (λ _. refl) (λ _. length-set a (k / 8) (get_or a (k / 8) 0 + 2 ^ (k % 8)))

  -- nothing is marked but what was, and bit k
  pub marking-only : k / 8 < length a → (j : ℕ) → marked (marking a k) j ≡ true → (j ≡ k) ⊎ (marked a j ≡ true)
  unfolding marking marked
  marking-only l j =
      of-pick (λ m. marked m j ≡ true → (j ≡ k) ⊎ (marked a j ≡ true)) (marked a k) _ _ (λ _ e. inr e)
      (λ f e. by-eq j k (λ q. inl q) (λ q. inr (sym (other l (clear f) j q) ∙ e)))

  -- the code's way
  pub mark-clear : get_or a (k / 8) 0 / 2 ^ (k % 8) % 2 ≡ 0 → set a (k / 8) (get_or a (k / 8) 0 + 1 * 2 ^ (k % 8) % 256) ≡ marking a k
  unfolding marking marked pick
  mark-clear z = rw (weight (k % 8) (omega arith), z)

  pub mark-again : (get_or a (k / 8) 0 / 2 ^ (k % 8) % 2 ≡ 0 → ⊥) → a ≡ marking a k
  unfolding marking marked pick
  mark-again z = rw (bit-set (get_or a (k / 8) 0 / 2 ^ (k % 8)) z)

zero-beyond : (a : List ℕ) (i : ℕ) → length a ≤ i → get_or a i 0 ≡ 0
zero-beyond [] i h = refl
zero-beyond (x ∷ a) zero h = absurd (omega arith)
zero-beyond (x ∷ a) (suc i) h = zero-beyond a i (omega arith)

zero-at : (n i : ℕ) → ◌≡◌ {A = ℕ} (get_or (replicate n 0) i 0) 0
zero-at n i = by-lt i n (λ h. get_or-replicate n i 0 0 h) (λ h. zero-beyond (replicate n 0) i (omega (arith, length-replicate {A = ℕ} n 0)))

-- no bit is set beyond the area
pub beyond : (a : List ℕ) (k : ℕ) → length a ≤ k / 8 → marked a k ≡ false
unfolding marked
beyond a k h = rw (zero-beyond a (k / 8) h, zero-div (2 ^ (k % 8)))

-- nor in one that is cleared
pub cleared : (n k : ℕ) → marked (replicate n 0) k ≡ false
unfolding marked
cleared n k = rw (zero-at n (k / 8), zero-div (2 ^ (k % 8)))

-- nor where the area has zeros in front
pub none-marked : {X : Type 0} (n k : ℕ) (a : List ℕ) → k / 8 < n → marked (zeroed n a) k ≡ true → X
unfolding marked
none-marked n k a h e = not-both e (rw (zeroed-at n a (k / 8) h, zero-div (2 ^ (k % 8))))
