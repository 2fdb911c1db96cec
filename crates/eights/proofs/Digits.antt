-- A number's lowest digit in base 256 goes apart from the others through `and` and `or`.
-- Assumes nothing.
use mathlib.Core.Path.{◌≡◌}
use Prim.Native.Nat.{ℕ, zero, suc, ◌+◌, ◌*◌, ◌/◌, ◌%◌, ◌^◌, ◌<◌}
use native.Mathlib.Omega.{arith}
use lib.Bits.{bit_and, bit_or, and_block, or_block, and_high}

-- the number whose n digits are a high bit each
unfoldable pub highs : ℕ → ℕ
highs zero = 0
highs (suc n) = 128 + 256 * highs n

-- a byte's high bit
pub high_bit : (b : ℕ) → b < 256 → bit_and b 128 ≡ b / 128 * 128
high_bit b h = let e : bit_and b 128 ≡ (b / 128 % 2) * 128 = and_high b 1 7 in omega (arith, e)

-- of any operation that works on the low digits and on the others apart
module _ (op : ℕ → ℕ → ℕ) (block : (k a b r s : ℕ) → r < 2 ^ k → s < 2 ^ k → op (a * 2 ^ k + r) (b * 2 ^ k + s) ≡ op a b * 2 ^ k + op r s) where
  digit : (b x c y : ℕ) → b < 256 → c < 256 → op (b + 256 * x) (c + 256 * y) ≡ op b c + 256 * op x y
  digit b x c y h k =
      let one : b + 256 * x ≡ x * 256 + b = omega arith in
      let other : c + 256 * y ≡ y * 256 + c = omega arith in
      let parts : op (x * 256 + b) (y * 256 + c) ≡ op x y * 256 + op b c = block 8 x y b c h k in
      rw (one, other, parts) (omega arith)

pub and-digit : (b x c y : ℕ) → b < 256 → c < 256 → bit_and (b + 256 * x) (c + 256 * y) ≡ bit_and b c + 256 * bit_and x y
and-digit = digit bit_and and_block

pub or-digit : (b x c y : ℕ) → b < 256 → c < 256 → bit_or (b + 256 * x) (c + 256 * y) ≡ bit_or b c + 256 * bit_or x y
or-digit = digit bit_or or_block
