-- One number tells whether bytes hold a zero: its high bits are all set exactly if no byte is zero, digit by digit.
-- Assumes nothing.
use mathlib.Core.Path.{◌≡◌, refl, sym, ap, ◌∙◌}
use mathlib.Core.Bool.{Bool, true, false}
use mathlib.Core.List.{List, [], ◌∷◌}
use Prim.Native.Nat.{ℕ, zero, suc, ◌+◌, ◌*◌, ◌%◌, ◌<◌, ◌≤◌}
use native.Mathlib.Omega.{arith}
use borrow.Author.Tests.{eqb-true, eqb-false, eq-eqb, ne_eqb}
use lib.Bits.{bit_and, bit_or, and_mask, and_le_l, and_le_r, or_add_and, or_lt}
use lib.Dec.{eqb}
use lib.ListN.{length, take, drop, length-drop}
use lib.Seq.{length-take-le}
use Rattle.wire.specs.Numbers.{little}
use Rattle.wire.specs.Frames.{to_zero}
use Rattle.laws.specs.Range.{AreBytes}
use Rattle.laws.proofs.Bytes.{below-take, below-drop}
use Rattle.eights.proofs.Digits.{highs, high_bit, and-digit, or-digit}
use Rattle.decoder.specs.Parts.{nowhere}
use Rattle.decoder.proofs.Search.{nowhere-later}

-- ---- one byte

-- its low seven bits and 127
abbrev raised : ℕ → ℕ
raised b = bit_and b 127 + 127

low_bits : (b : ℕ) → bit_and b 127 ≡ b % 128
low_bits b = and_mask b 7

raised_byte : (b : ℕ) → raised b < 256
raised_byte b = omega (arith, low_bits b)

-- its high bit then, or its own
abbrev told : ℕ → ℕ
told b = bit_and (bit_or (raised b) b) 128

told-byte : (b : ℕ) → b < 256 → bit_or (raised b) b < 256
told-byte b h = or_lt 8 (raised b) b (raised_byte b) h

told-zero : told 0 ≡ 0
told-zero = refl

told-other : (b : ℕ) → b < 256 → (b ≡ 0 → ⊥) → told b ≡ 128
told-other b h byte =
    omega (arith, high_bit (bit_or (raised b) b) (told-byte b h), told-byte b h, or_add_and (raised b) b, and_le_l (raised b) b, and_le_r (raised b) b, low_bits b, byte)

-- ---- all bytes

-- the number whose n digits are 127 each
unfoldable lows : ℕ → ℕ
lows zero = 0
lows (suc n) = 127 + 256 * lows n

-- what the code is left with, of a number of n bytes
abbrev left : ℕ → ℕ → ℕ
left n x = bit_and (bit_or (bit_and x (lows n) + lows n) x) (highs n)

-- the lowest byte goes apart from the others
digit : (n b x : ℕ) → b < 256 → left (suc n) (b + 256 * x) ≡ told b + 256 * left n x
unfolding lows highs
digit n b x h =
    let lowest : bit_and (b + 256 * x) (127 + 256 * lows n) ≡ bit_and b 127 + 256 * bit_and x (lows n) = and-digit b x 127 (lows n) h (omega arith) in
    let sum : bit_and (b + 256 * x) (127 + 256 * lows n) + (127 + 256 * lows n) ≡ raised b + 256 * (bit_and x (lows n) + lows n) = omega (arith, lowest) in
    rw (sum, or-digit (raised b) (bit_and x (lows n) + lows n) b x (raised_byte b) h) (and-digit (bit_or (raised b) b) (bit_or (bit_and x (lows n) + lows n) x) 128 (highs n) (told-byte b h) (omega arith))

same_test : (x y : ℕ) → eqb (128 + 256 * x) (128 + 256 * y) ≡ eqb x y
same_test x y = by (eqb x y) refl
  where
    by : (t : Bool) → eqb x y ≡ t → eqb (128 + 256 * x) (128 + 256 * y) ≡ t
    by true is = eq-eqb (128 + 256 * x) (128 + 256 * y) (omega (arith, eqb-true x y is))
    by false is = ne_eqb (128 + 256 * x) (128 + 256 * y) (λ e. eqb-false x y is (omega arith))

told_none : eqb (left 0 0) (highs 0) ≡ true
unfolding lows highs
told_none = refl

told-all : (s : List ℕ) → AreBytes s → eqb (left (length s) (little s)) (highs (length s)) ≡ nowhere (to_zero s)
unfolding little to_zero nowhere highs
told-all [] h = told_none
told-all (zero ∷ s) h =
    ne_eqb (left (suc (length s)) (0 + 256 * little s)) (128 + 256 * highs (length s)) (λ e. omega (arith, e, digit (length s) 0 (little s) (h 0), told-zero))
told-all (suc b ∷ s) h =
    let x : ℕ = left (length s) (little s) in
    let turn : left (suc (length s)) (suc b + 256 * little s) ≡ 128 + 256 * x = digit (length s) (suc b) (little s) (h 0) ∙ ap (λ (k : ℕ). k + 256 * x) (told-other (suc b) (h 0) (λ e. omega arith)) in
    rw turn (same_test x (highs (length s)) ∙ told-all s (λ i. h (suc i)) ∙ sym (nowhere-later (to_zero s)))

-- ---- eight bytes, as the code tests them

pub told-eight : (s : List ℕ) (at : ℕ) {x : ℕ} → AreBytes s → at + 8 ≤ length s → x ≡ little (take 8 (drop at s)) → eqb (bit_and (bit_or (bit_and x 0x7F7F_7F7F_7F7F_7F7F + 0x7F7F_7F7F_7F7F_7F7F) x) 0x8080_8080_8080_8080) 0x8080_8080_8080_8080 ≡ nowhere (to_zero (take 8 (drop at s)))
unfolding lows highs
told-eight s at bytes inside is =
    let many : length (take 8 (drop at s)) ≡ 8 = length-take-le 8 (drop at s) (simp length-drop (omega arith)) in
    rw is (rw many at (told-all (take 8 (drop at s)) (below-take 256 8 (drop at s) (below-drop 256 at s bytes))))
