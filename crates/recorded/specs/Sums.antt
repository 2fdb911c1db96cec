-- The Adler-32 sum of bytes, which RFC 1950 describes.
-- Assumes nothing.
use Rattle.std.specs.Prelude.{◌≡◌, List, [], ◌∷◌, ◌++◌, ℕ, ◌+◌, ◌*◌, ◌%◌, ◌<◌}

abbrev pub prime : ℕ
prime = 65521

unfoldable pub sum_from : (low high : ℕ) → List ℕ → ℕ
sum_from low high [] = high * 65536 + low
sum_from low high (b ∷ s) = sum_from ((low + b) % prime) ((high + (low + b) % prime) % prime) s

unfoldable pub sum_of : List ℕ → ℕ
sum_of s = sum_from 1 0 s

-- a list in which one byte is changed has another sum
abbrev pub Notices : Type 0
Notices = (front back : List ℕ) (a b : ℕ) → a < 256 → b < 256 → sum_of (front ++ a ∷ back) ≡ sum_of (front ++ b ∷ back) → a ≡ b
