-- How the taking of an item ends, in the words of the rules.
-- Assumes nothing.
use Rattle.std.specs.Prelude.{Result, Ok, Err}
use Rattle.wire.specs.declared.Refusal.{Refusal}
use Rattle.wire.specs.declared.Own.{Own}

-- what was read of an item's own bytes, or why it is refused
abbrev pub Item : Type 0
Item = Result Own Refusal

pattern abbrev pub Took : Own → Item
Took own = Ok own

pattern abbrev pub Refused : Refusal → Item
Refused why = Err why
