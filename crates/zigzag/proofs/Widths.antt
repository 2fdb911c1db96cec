-- The word of a number's low bits, and the test of a word: each once over the width, by the bit that is the sign.
-- Assumes nothing.
use mathlib.Core.Path.{◌≡◌, refl, sym}
use mathlib.Core.Bool.{true}
use Prim.Native.Nat.{ℕ, ◌+◌, ◌-◌, ◌*◌, ◌/◌, ◌%◌, ◌^◌, ◌<◌, ◌≤◌}
use native.Mathlib.Nat.{one-le-pow, mod-lt, zero-mul, one-mul, zero-add}
use native.Mathlib.Omega.{arith}
use lib.Arith.{mod-mul}
use lib.Dec.{ltb}
use borrow.Author.Tests.{lt-ltb, le-ltb, le-leb, lt-leb, ne_eqb}
use Rattle.wire.specs.Tests.{pick}
use Rattle.wire.specs.Shape.{w16, bits}
use Rattle.wire.specs.Numbers.{most, shortest_f, shortest, signed_word, is_signed_word, zigzag}
use Rattle.laws.proofs.Splits.{by-lt, by-eq}
use Rattle.laws.proofs.Numbers.{Bits, bits8, bits32, bits64, bits_of, signed_low, signed_high}
use Rattle.zigzag.specs.Widths.{width_of, Case}

-- ---- the widths

module _ (n : ℕ) where
  pub width-8 : n ≡ 8 → width_of n ≡ 8
  unfolding width_of pick
  width-8 e = rw e

  pub width-16 : n ≡ 16 → width_of n ≡ 16
  unfolding width_of pick
  width-16 e = rw e

  pub width-32 : n ≡ 32 → width_of n ≡ 32
  unfolding width_of pick
  width-32 e = rw e

  pub width-64 : (n ≡ 8 → ⊥) → (n ≡ 16 → ⊥) → (n ≡ 32 → ⊥) → width_of n ≡ 64
  unfolding width_of pick
  width-64 e f g = rw (ne_eqb n 8 e, ne_eqb n 16 f, ne_eqb n 32 g)

  pub width-bits : Bits (width_of n)
  unfolding bits
  width-bits =
      by-eq n 8 (λ e. rw (width-8 e) bits8)
      (λ e. by-eq n 16 (λ f. rw (width-16 f) (bits_of w16))
      (λ f. by-eq n 32 (λ g. rw (width-32 g) bits32) (λ g. rw (width-64 e f g) bits64)))

-- ---- the sign

module _ (n : ℕ) (part : Bits n) where
  pub half-some : 0 < 2 ^ (n - 1)
  half-some = one-le-pow (n - 1) 2 (omega arith)

  pub half-few : 2 ^ (n - 1) ≤ 2 ^ 63
  half-few = omega (arith, part.whole, part.half)

  -- the bit above the low ones, and these
  low_bits : (x : ℕ) {b : ℕ} → x / 2 ^ (n - 1) % 2 ≡ b → x % 2 ^ n ≡ b * 2 ^ (n - 1) + x % 2 ^ (n - 1)
  low_bits x e = rw (part.half, mod-mul x {m = 2} {c = 2 ^ (n - 1)} (omega arith) half-some, e)

  module _ (x : ℕ) where
    small : x % 2 ^ (n - 1) < 2 ^ (n - 1)
    small = mod-lt x half-some

    pub extended-low : x / 2 ^ (n - 1) % 2 ≡ 0 → x % 2 ^ (n - 1) ≡ signed_word n (x % 2 ^ n)
    extended-low e =
        let low : x % 2 ^ n ≡ x % 2 ^ (n - 1) = rw (zero-mul, zero-add) at (low_bits x e) in
        rw (signed_low n (x % 2 ^ n) (omega (arith, small))) (sym low)

    pub extended_fits : 2 ^ 64 - 1 - (2 ^ (n - 1) - 1) + x % 2 ^ (n - 1) < 2 ^ 64
    extended_fits = omega (arith, small, half-some, half-few)

    pub extended-high : (x / 2 ^ (n - 1) % 2 ≡ 0 → ⊥) → 2 ^ 64 - 1 - (2 ^ (n - 1) - 1) + x % 2 ^ (n - 1) ≡ signed_word n (x % 2 ^ n)
    extended-high f =
        let one : x / 2 ^ (n - 1) % 2 ≡ 1 = omega arith in
        let high : x % 2 ^ n ≡ 2 ^ (n - 1) + x % 2 ^ (n - 1) = rw one-mul at (low_bits x one) in
        rw (signed_high n (x % 2 ^ n) (omega (arith, small))) (omega (arith, high, half-some, half-few, part.half))

  module _ (a : ℕ) where
    pub signed_below : a < 2 ^ (n - 1) → true ≡ is_signed_word n a
    unfolding is_signed_word pick
    signed_below h = rw (lt-ltb a (2 ^ (n - 1)) h)

    pub signed_above : 2 ^ (n - 1) ≤ a → ltb (2 ^ 64 - 1 - 2 ^ (n - 1)) a ≡ is_signed_word n a
    unfolding is_signed_word pick
    signed_above h = rw (le-ltb a (2 ^ (n - 1)) h) (by-lt (2 ^ 64 - 1 - 2 ^ (n - 1)) a
        (λ lo. rw (lt-ltb _ _ lo, le-leb (2 ^ 64 - 2 ^ (n - 1)) a (omega (arith, half-some, half-few))))
        (λ hi. rw (le-ltb _ _ hi, lt-leb (2 ^ 64 - 2 ^ (n - 1)) a (omega (arith, half-some, half-few)))))

-- ---- document 01's

pub case : Case
unfolding shortest shortest_f most zigzag pick
case = refl
