-- How far both messages are gone over, in the words of the rules.
-- Assumes nothing.
use Rattle.std.specs.Prelude.{ℕ, Option, Some, None}
use Rattle.compare_walk.specs.declared.Gone.{Gone}

-- where both messages are gone over to, the entries that each made, and the pairs; or one of them is refused
abbrev pub Walked : Type 0
Walked = Option Gone

abbrev pub Both : (one : ℕ) → (other : ℕ) → (ones : ℕ) → (others : ℕ) → (count : ℕ) → Walked
Both one other ones others count = Some (record { one = one; other = other; ones = ones; others = others; count = count })

pattern abbrev pub Apart : Walked
Apart = None
