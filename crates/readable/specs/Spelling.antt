-- The spelling of values for a reader.
-- Assumes nothing.
use Rattle.std.specs.Prelude.{Bool, true, List, [], ◌∷◌, ◌++◌, ℕ, ◌-◌, ◌^◌, eqb, ltb, take}
use Rattle.wire.specs.Tests.{pick}
use Rattle.desk.specs.Csv.{hex_of}

-- a byte that would not show: below the space, or 127
unfoldable pub is_hidden : ℕ → Bool
is_hidden b = pick (ltb b 32) true (eqb b 127)

-- a byte of a text as it stands between quotes: quote, backslash, line end, return and tab by their letter, hidden bytes by their number
unfoldable pub escape : ℕ → List ℕ
escape b =
    pick (eqb b 34) (92 ∷ 34 ∷ [])
    (pick (eqb b 92) (92 ∷ 92 ∷ [])
    (pick (eqb b 10) (92 ∷ 110 ∷ [])
    (pick (eqb b 13) (92 ∷ 114 ∷ [])
    (pick (eqb b 9) (92 ∷ 116 ∷ [])
    (pick (is_hidden b) (92 ∷ 120 ∷ hex_of b)
    (b ∷ []))))))

-- four bytes: a list, and zeros behind it
unfoldable pub padded : List ℕ → List ℕ
padded s = take 4 (s ++ 0 ∷ 0 ∷ 0 ∷ 0 ∷ [])

-- words from here on stand for numbers below zero
abbrev pub half : ℕ
half = 2 ^ 63

-- the size of the signed number that a word stands for
unfoldable pub size_of : ℕ → ℕ
size_of w = pick (ltb w half) w (2 ^ 64 - w)
