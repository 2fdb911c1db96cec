-- The widths of signed numbers, and the word that a number's low bits are.
-- Assumes nothing.
use Rattle.std.specs.Prelude.{◌≡◌, [], ◌∷◌, ℕ, ◌-◌, ◌%◌, ◌^◌, eqb}
use Rattle.wire.specs.Tests.{pick}
use Rattle.wire.specs.Numbers.{shortest, signed_word, zigzag}

-- 8, 16, 32 and 64 bits: any other number stands for 64
unfoldable pub width_of : ℕ → ℕ
width_of n = pick (eqb n 8) 8 (pick (eqb n 16) 16 (pick (eqb n 32) 32 64))

unfoldable pub extended : ℕ → ℕ → ℕ
extended n x = signed_word (width_of n) (x % 2 ^ width_of n)

-- document 01's case 8: the i16 -32768 is written as these bytes
abbrev pub Case : Type 0
Case = shortest (zigzag (2 ^ 64 - 32768)) ≡ 0xff ∷ 0xff ∷ 0x03 ∷ []
