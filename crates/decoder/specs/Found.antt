-- Where a zero stands, in the words of the rules.
-- Assumes nothing.
use Rattle.std.specs.Prelude.{ℕ, Option, Some, None}

-- its place, or that there is none
abbrev pub Found : Type 0
Found = Option ℕ

pattern abbrev pub At : (place : ℕ) → Found
At place = Some place

pattern abbrev pub Nothing : Found
Nothing = None
