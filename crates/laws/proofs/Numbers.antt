-- What is written of a number is read back: zigzag and fixed size, each once over the width, the sign and the order.
-- Assumes nothing.
use mathlib.Core.Path.{◌≡◌, refl, sym, ap, ◌∙◌}
use mathlib.Core.Bool.{true}
use mathlib.Core.List.{List, ◌++◌, reverse-reverse}
use Prim.Native.Nat.{ℕ, zero, suc, ◌+◌, ◌-◌, ◌*◌, ◌/◌, ◌%◌, ◌≤◌, ◌<◌, ◌^◌}
use native.Mathlib.Omega.{arith}
use native.Mathlib.Nat.{pow-suc, mod-eq_of_lt, mod-one, mul-add-mod_self_left, one-le-pow}
use lib.Arith.{mod-mul}
use lib.ListN.{length, length-append, length-reverse}
use lib.Seq.{take-append_seam}
use borrow.Author.Tests.{ltb-true, leb-true, lt-ltb, le-ltb, le-leb, eq-eqb, ne_eqb}
use Rattle.wire.specs.Tests.{pick}
use Rattle.wire.specs.Shape.{Width, w16, w32, w64, bits, size, Order, le, be, Sign, signed, unsigned}
use Rattle.wire.specs.Numbers.{varint, shortest, signed_word, is_signed_word, zigzag, unzigzag, word, is_word, zigzagged, unzigzagged, on_first, took, little, little_bytes, in_order, word_of}
use Rattle.laws.proofs.Splits.{by-lt}
use Rattle.laws.proofs.Varints.{varint-back}

-- n bits are one at least, and a part of a word's 64
pub record Bits (n : ℕ) : Type 0 where
  pub above : ℕ
  pub whole : 2 ^ n * above + 2 ^ n ≡ 2 ^ 64
  pub half : 2 ^ n ≡ 2 * 2 ^ (n - 1)

pub bits8 : Bits 8
bits8 = record { above = 2 ^ 56 - 1; whole = refl; half = refl }

pub bits32 : Bits 32
bits32 = record { above = 2 ^ 32 - 1; whole = refl; half = refl }

pub bits64 : Bits 64
bits64 = record { above = 0; whole = refl; half = refl }

pub bits_of : (w : Width) → Bits (bits w)
unfolding bits
bits_of w16 = record { above = 2 ^ 48 - 1; whole = refl; half = refl }
bits_of w32 = bits32
bits_of w64 = bits64

-- ---- either side of zero

pub zigzag-low : (a : ℕ) → a < 2 ^ 63 → zigzag a ≡ 2 * a
unfolding zigzag pick
zigzag-low a h = rw (lt-ltb a (2 ^ 63) h)

pub zigzag-high : (a : ℕ) → 2 ^ 63 ≤ a → zigzag a ≡ 2 * (2 ^ 64 - a) - 1
unfolding zigzag pick
zigzag-high a h = rw (le-ltb a (2 ^ 63) h)

pub unzigzag-even : (m : ℕ) → unzigzag (2 * m) ≡ m
unfolding unzigzag pick
unzigzag-even m = rw (eq-eqb ((2 * m) % 2) 0 (omega arith)) (omega arith)

pub unzigzag-odd : (m : ℕ) → 0 < m → unzigzag (2 * m - 1) ≡ 2 ^ 64 - m
unfolding unzigzag pick
unzigzag-odd m h = rw (ne_eqb ((2 * m - 1) % 2) 0 (λ e. omega arith)) (omega arith)

pub signed_low : (n x : ℕ) → x < 2 ^ (n - 1) → signed_word n x ≡ x
unfolding signed_word pick
signed_low n x h = rw (lt-ltb x (2 ^ (n - 1)) h)

pub signed_high : (n x : ℕ) → 2 ^ (n - 1) ≤ x → signed_word n x ≡ 2 ^ 64 - 2 ^ n + x
unfolding signed_word pick
signed_high n x h = rw (le-ltb x (2 ^ (n - 1)) h)

-- a word a that stands for a signed number of n bits
module _ (n : ℕ) (part : Bits n) (a : ℕ) (fits : a < 2 ^ 64) (is : is_signed_word n a ≡ true) where
  half_le : 2 * 2 ^ (n - 1) ≤ 2 ^ 64
  half_le = omega (arith, part.whole, part.half)

  -- x, or 2^64 + x below zero
  by_sign : {X : Type 0} → (a < 2 ^ (n - 1) → X) → (2 ^ 64 - 2 ^ (n - 1) ≤ a → X) → X
  unfolding is_signed_word pick
  by_sign f g = by-lt a (2 ^ (n - 1)) f (λ h. g (leb-true (2 ^ 64 - 2 ^ (n - 1)) a (rw (le-ltb _ _ h) at is)))

  signed-zigzag-back : unzigzag (zigzag a) ≡ a
  signed-zigzag-back =
      by_sign (λ l. rw (zigzag-low a (omega (arith, half_le))) (unzigzag-even a))
      (λ l. rw (zigzag-high a (omega (arith, half_le)), unzigzag-odd (2 ^ 64 - a) (omega arith)) (omega arith))

  signed-zigzag-lt : zigzag a < 2 ^ n
  signed-zigzag-lt =
      by_sign (λ l. rw (zigzag-low a (omega (arith, half_le))) (omega (arith, part.half)))
      (λ l. rw (zigzag-high a (omega (arith, half_le))) (omega (arith, part.half, half_le)))

  -- its low n bits say which it is
  signed-word-back : signed_word n (a % 2 ^ n) ≡ a
  signed-word-back =
      by_sign (λ l. rw (mod-eq_of_lt {n = a} {m = 2 ^ n} (omega (arith, part.half))) (signed_low n a l))
      (λ l. rw (low_bits l, signed_high n x (omega (arith, part.whole, part.half))) (omega (arith, part.whole, part.half)))
    where
      x : ℕ
      x = a - (2 ^ 64 - 2 ^ n)

      low_bits : 2 ^ 64 - 2 ^ (n - 1) ≤ a → a % 2 ^ n ≡ x
      low_bits l = ap (λ y. y % 2 ^ n) split ∙ mul-add-mod_self_left (2 ^ n) part.above x ∙ mod-eq_of_lt small
        where
          split : a ≡ 2 ^ n * part.above + x
          split = omega (arith, part.whole, part.half)

          small : x < 2 ^ n
          small = omega (arith, part.whole, part.half)

-- ---- either sign

module _ (n : ℕ) (part : Bits n) where
  pub zigzag-back : (g : Sign) (a : ℕ) → a < 2 ^ 64 → is_word g n a ≡ true → unzigzagged g (zigzagged g a) ≡ a
  unfolding is_word zigzagged unzigzagged
  zigzag-back signed a h is = signed-zigzag-back n part a h is
  zigzag-back unsigned a h is = refl

  pub zigzag-lt : (g : Sign) (a : ℕ) → a < 2 ^ 64 → is_word g n a ≡ true → zigzagged g a < 2 ^ n
  unfolding is_word zigzagged
  zigzag-lt signed a h is = signed-zigzag-lt n part a h is
  zigzag-lt unsigned a h is = ltb-true a (2 ^ n) is

  pub word_back : (g : Sign) (a : ℕ) → a < 2 ^ 64 → is_word g n a ≡ true → word g n (a % 2 ^ n) ≡ a
  unfolding is_word word
  word_back signed a h is = signed-word-back n part a h is
  word_back unsigned a h is = mod-eq_of_lt (ltb-true a (2 ^ n) is)

-- a number's varint
pub int-back : (g : Sign) (w : Width) (a : ℕ) (rest : List ℕ) → a < 2 ^ 64 → is_word g (bits w) a ≡ true
    → on_first (unzigzagged g) (varint w (shortest (zigzagged g a) ++ rest)) ≡ took a 0 (length (shortest (zigzagged g a)))
unfolding on_first
int-back g w a rest h is =
    rw (varint-back w (zigzagged g a) rest (zigzag-lt (bits w) (bits_of w) g a h is), zigzag-back (bits w) (bits_of w) g a h is)

-- ---- fixed-size numbers

pub length-little_bytes : (k a : ℕ) → length (little_bytes k a) ≡ k
unfolding little_bytes
length-little_bytes zero a = refl
length-little_bytes (suc k) a = ap suc (length-little_bytes k (a / 256))

pub little-back : (k a : ℕ) → little (little_bytes k a) ≡ a % 256 ^ k
unfolding little_bytes little
little-back zero a = sym (mod-one a)
little-back (suc k) a =
    rw (little-back k (a / 256), pow-suc 256 k, mod-mul a {m = 256 ^ k} {c = 256} (one-le-pow k 256 (omega arith)) (omega arith))
    (omega arith)

pub order-back : (o : Order) (s : List ℕ) → in_order o (in_order o s) ≡ s
unfolding in_order
order-back le s = refl
order-back be s = reverse-reverse s

pub length-order : (o : Order) (s : List ℕ) → length (in_order o s) ≡ length s
unfolding in_order
length-order le s = refl
length-order be s = length-reverse s

pub bytes-of-width : (w : Width) → 256 ^ size w ≡ 2 ^ bits w
unfolding size bits
bytes-of-width w16 = refl
bytes-of-width w32 = refl
bytes-of-width w64 = refl

-- k bytes at the front
pub front-word : (k : ℕ) (f : List ℕ → ℕ) (s rest : List ℕ) → length s ≡ k → word_of k f (s ++ rest) ≡ took (f s) 0 (length s)
unfolding word_of pick
front-word k f s rest e = rw (← e, le-leb (length s) (length (s ++ rest)) (simp length-append (omega arith)), take-append_seam s rest)

-- a number of n bits in k bytes, in either order
pub fixed_back : (o : Order) (g : Sign) (n k : ℕ) → Bits n → 256 ^ k ≡ 2 ^ n → (a : ℕ) (rest : List ℕ) → a < 2 ^ 64 → is_word g n a ≡ true
    → word_of k (λ b. word g n (little (in_order o b))) (in_order o (little_bytes k a) ++ rest) ≡ took a 0 (length (in_order o (little_bytes k a)))
fixed_back o g n k part same a rest h is =
    front-word k (λ b. word g n (little (in_order o b))) (in_order o (little_bytes k a)) rest (length-order o (little_bytes k a) ∙ length-little_bytes k a)
    ∙ ap (λ x. took x 0 (length (in_order o (little_bytes k a)))) value
  where
    value : word g n (little (in_order o (in_order o (little_bytes k a)))) ≡ a
    value = rw (order-back, little-back, same) (word_back n part g a h is)
