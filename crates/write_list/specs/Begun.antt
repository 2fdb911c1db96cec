-- A round's front, in the words of the rules.
-- Assumes nothing.
use Rattle.std.specs.Prelude.{ℕ, Option, Some, None}

-- the entry that is next then, or no value has its entry
abbrev pub Begun : Type 0
Begun = Option ℕ

pattern abbrev pub At : (at : ℕ) → Begun
At at = Some at

pattern abbrev pub Misfit : Begun
Misfit = None
