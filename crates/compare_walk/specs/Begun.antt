-- A round's front, in the words of the rules.
-- Assumes nothing.
use Rattle.std.specs.Prelude.{ℕ, Option, Some, None}
use Rattle.compare_walk.specs.declared.Heads.{Heads}

-- the entries that are made then, or no room for its own
abbrev pub Begun : Type 0
Begun = Option Heads

abbrev pub At : (ones : ℕ) → (others : ℕ) → Begun
At ones others = Some (record { ones = ones; others = others })

pattern abbrev pub Full : Begun
Full = None
