-- Fixed-size numbers of n bytes, in either order and with either sign.
-- Assumes nothing.
use Rattle.std.specs.Prelude.{◌≡◌, Bool, true, false, List, ℕ, ◌*◌, ◌^◌, ◌≤◌}
use Rattle.wire.specs.Item.{Item}
use Rattle.wire.specs.Shape.{w32, w64, Order, le, be, Sign, signed, unsigned, Plain, i8, u8, f32, f64, fixed}
use Rattle.wire.specs.Numbers.{word, little, in_order, word_of}
use Rattle.wire.specs.Reading.{read_plain}
use Rattle.zigzag.specs.Widths.{width_of}

unfoldable pub order_of : (big : Bool) → Order
order_of false = le
order_of true = be

unfoldable pub sign_of : (negative : Bool) → Sign
sign_of false = unsigned
sign_of true = signed

unfoldable pub byte_of : (negative : Bool) → Plain
byte_of false = u8
byte_of true = i8

-- n bytes fit a word, and their bits are a width
pub record IsSize (n : ℕ) : Type 0 where
  pub few : n ≤ 8
  pub width : width_of (8 * n) ≡ 8 * n
  pub values : 256 ^ n ≡ 2 ^ (8 * n)

-- the word of the first n bytes
unfoldable pub number_of : ℕ → Sign → Order → List ℕ → Item
number_of n g o s = word_of n (λ b. word g (8 * n) (little (in_order o b))) s

-- a float's word is that of the unsigned number of its size
abbrev pub Floats : Type 0
Floats = (s : List ℕ) → (read_plain f32 s ≡ read_plain (fixed le unsigned w32) s) × (read_plain f64 s ≡ read_plain (fixed le unsigned w64) s)
