-- A number of n bytes is wire's leaf of that size, once over the size, the sign and the order.
-- Assumes nothing.
use mathlib.Core.Path.{◌≡◌, refl}
use mathlib.Core.Bool.{Bool, true, false}
use mathlib.Core.List.{List}
use Prim.Native.Nat.{ℕ, ◌*◌, ◌^◌, ◌<◌, ◌≤◌}
use native.Mathlib.Nat.{mod-eq_of_lt}
use native.Mathlib.Omega.{arith}
use lib.ListN.{length, take}
use borrow.Author.Tests.{le-leb, lt-leb}
use Rattle.wire.specs.declared.Refusal.TheVariants.{End}
use Rattle.wire.specs.Item.{Refused}
use Rattle.wire.specs.Tests.{pick}
use Rattle.wire.specs.Shape.{Width, w16, w32, w64, bits, size, Order, le, Sign, signed, fixed}
use Rattle.wire.specs.Numbers.{word, took, in_order, little, word_of}
use Rattle.wire.specs.Reading.{read_plain}
use Rattle.zigzag.specs.Widths.{width_of, extended}
use Rattle.fixint.specs.Sizes.{byte_of, sign_of, IsSize, number_of, Floats}

-- ---- the sizes

pub byte-size : IsSize 1
unfolding width_of pick
byte-size = record { few = omega arith; width = refl; values = refl }

pub width-size : (w : Width) → IsSize (size w)
unfolding size width_of pick
width-size w16 = record { few = omega arith; width = refl; values = refl }
width-size w32 = record { few = omega arith; width = refl; values = refl }
width-size w64 = record { few = omega arith; width = refl; values = refl }

-- ---- the words

-- a number's low bits are the number
pub extended-whole : (n x : ℕ) → IsSize n → x < 256 ^ n → extended (8 * n) x ≡ word signed (8 * n) x
unfolding extended word
extended-whole n x z h = rw (z.width, mod-eq_of_lt {n = x} {m = 2 ^ (8 * n)} (rw z.values at h))

pub ended : (n : ℕ) (g : Sign) (o : Order) (s : List ℕ) → length s < n → Refused End ≡ number_of n g o s
unfolding number_of word_of pick
ended n g o s h = rw (lt-leb n (length s) h)

pub is_number : (n : ℕ) (g : Sign) (o : Order) (s : List ℕ) → n ≤ length s → took (word g (8 * n) (little (in_order o (take n s)))) 0 n ≡ number_of n g o s
unfolding number_of word_of pick
is_number n g o s h = rw (le-leb n (length s) h)

-- ---- the leaves

pub is_byte : (negative : Bool) (s : List ℕ) → number_of 1 (sign_of negative) le s ≡ read_plain (byte_of negative) s
unfolding number_of read_plain sign_of byte_of word in_order
is_byte true s = refl
is_byte false s = refl

pub is-fixed : (o : Order) (g : Sign) (w : Width) (s : List ℕ) → number_of (size w) g o s ≡ read_plain (fixed o g w) s
unfolding number_of read_plain size bits
is-fixed o g w16 s = refl
is-fixed o g w32 s = refl
is-fixed o g w64 s = refl

pub floats : Floats
unfolding read_plain size word in_order
floats s = (refl, refl)
