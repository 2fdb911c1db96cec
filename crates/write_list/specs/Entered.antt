-- How the entering of an item ends, in the words of the rules.
-- Assumes nothing.
use Rattle.std.specs.Prelude.{ℕ, Option, Some, None}
use Rattle.table.specs.declared.Stretch.{Stretch}
use Rattle.write_list.specs.declared.Inside.{Inside}

-- what follows its entry and the bytes, or no value has the entry
abbrev pub Entered : Type 0
Entered = Option Inside

abbrev pub On : (to : Stretch) → (used : ℕ) → Entered
On to used = Some (record { to = to; used = used })

pattern abbrev pub Misfit : Entered
Misfit = None
