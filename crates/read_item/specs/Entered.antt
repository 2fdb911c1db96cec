-- How the entering of an item ends, in the words of the rules.
-- Assumes nothing.
use Rattle.std.specs.Prelude.{ℕ, Result, Ok, Err}
use Rattle.wire.specs.declared.Refusal.{Refusal}
use Rattle.table.specs.declared.Stretch.{Stretch}
use Rattle.read_item.specs.declared.Inside.{Inside}

-- what follows its entry and its own bytes, or why it is refused
abbrev pub Entered : Type 0
Entered = Result Inside Refusal

abbrev pub On : (to : Stretch) → (used : ℕ) → Entered
On to used = Ok (record { to = to; used = used })

pattern abbrev pub Refused : (why : Refusal) → Entered
Refused why = Err why
