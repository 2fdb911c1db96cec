-- What was taken on both sides, in the words of the rules.
-- Assumes nothing.
use Rattle.std.specs.Prelude.{ℕ, Option, Some, None}
use Rattle.std.specs.Prelude.{Bool}
use Rattle.compare_item.specs.declared.Sides as item

-- whether it is the same, and its bytes on each; or a side is refused
abbrev pub Taken : Type 0
Taken = Option item.Sides

abbrev pub Both : (same : Bool) → (used : ℕ) → (other : ℕ) → Taken
Both same used other = Some (record { same = same; used = used; other = other })

pattern abbrev pub Unread : Taken
Unread = None
