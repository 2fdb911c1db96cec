-- A round's front, in the words of the rules.
-- Assumes nothing.
use Rattle.std.specs.Prelude.{ℕ, Option, Some, None}

-- the entries that are made then, or no room for its entry
abbrev pub Begun : Type 0
Begun = Option ℕ

pattern abbrev pub At : (made : ℕ) → Begun
At made = Some made

pattern abbrev pub Full : Begun
Full = None
