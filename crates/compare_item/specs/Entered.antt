-- What an item that has children leaves to do, in the words of the rules.
-- Assumes nothing.
use Rattle.std.specs.Prelude.{ℕ, Option, Some, None}
use Rattle.std.specs.Prelude.{Bool}
use Rattle.table.specs.declared.Stretch.{Stretch}
use Rattle.compare_item.specs.declared.Inside.{Inside}

-- whether it is the same, and on each side its bytes and the stretch that follows it; or a side is refused
abbrev pub Entered : Type 0
Entered = Option Inside

abbrev pub On : (same : Bool) → (used : ℕ) → (to : Stretch) → (other : ℕ) → (toward : Stretch) → Entered
On same used to other toward = Some (record { same = same; used = used; to = to; other = other; toward = toward })

pattern abbrev pub Unread : Entered
Unread = None
