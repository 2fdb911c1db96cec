-- The form of a list: fields in a row. A field is two bytes of length, the high one first, and so many bytes.
-- Assumes nothing.
use Rattle.std.specs.Prelude.{Bool, false, List, [], ◌∷◌, ◌≡◌, ℕ, zero, suc, ◌+◌, ◌*◌, ◌-◌, ◌/◌, ◌≤◌, length, take, drop, ltb, eqb}
use Rattle.wire.specs.Tests.{pick}

-- the largest number behind which another byte fits in 64 bits
abbrev pub most : ℕ
most = 72057594037927935

-- the number that bytes behind v stand for, the high ones first; as many of them as fit
unfoldable pub number_from : ℕ → List ℕ → ℕ
number_from v [] = v
number_from v (b ∷ s) = pick (ltb most v) v (number_from (v * 256 + b) s)

unfoldable pub number_of : List ℕ → ℕ
number_of s = number_from 0 s

-- where the first field ends, 0 if no whole one is there
unfoldable pub end_of : List ℕ → ℕ
end_of s = pick (ltb (length s) 2) 0 (pick (ltb (length s - 2) (number_of (take 2 s))) 0 (2 + number_of (take 2 s)))

-- that, for whoever cuts the field off
pub record Ends (s : List ℕ) (r : ℕ) : Type 0 where
  pub right : r ≡ end_of s
  pub within : r ≤ length s

-- what the first field holds; nothing if no whole one is there
unfoldable pub first_of : List ℕ → List ℕ
first_of s = take (end_of s - 2) (drop 2 s)

unfoldable pub behind_of : List ℕ → List ℕ
behind_of s = drop (end_of s) s

-- what a field holds, by its number from 0
unfoldable pub part_of : ℕ → List ℕ → List ℕ
part_of zero s = first_of s
part_of (suc k) s = part_of k (behind_of s)

-- whether the bytes are so many fields and nothing else
unfoldable pub is_whole : ℕ → List ℕ → Bool
is_whole zero s = eqb (length s) 0
is_whole (suc k) s = pick (eqb (end_of s) 0) false (is_whole k (behind_of s))

-- so many words, of eight bytes each
unfoldable pub words_from : ℕ → List ℕ → List ℕ
words_from zero s = []
words_from (suc k) s = number_of (take 8 s) ∷ words_from k (drop 8 s)

-- the words that bytes stand for, of eight bytes each
unfoldable pub words_of : List ℕ → List ℕ
words_of s = words_from (length s / 8) s
