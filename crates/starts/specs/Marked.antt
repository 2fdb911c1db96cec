-- How far starts are marked, in the words of the rules.
-- Assumes nothing.
use Rattle.std.specs.Prelude.{ℕ, Option, Some, None}
use Rattle.starts.specs.declared.Upto as mark

-- how far, and how many they are; or that a message is refused
abbrev pub Marked : Type 0
Marked = Option mark.Upto

abbrev pub Upto : (at : ℕ) → (count : ℕ) → Marked
Upto at count = Some (record { at = at; count = count })

pattern abbrev pub Stopped : Marked
Stopped = None
