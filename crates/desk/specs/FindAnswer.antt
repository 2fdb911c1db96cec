-- What the question for one item by its path answers, in the words of the rules.
-- Assumes nothing.
use Rattle.std.specs.Prelude.{ℕ, Result, Ok, Err}
use Rattle.wire.specs.declared.Refusal.{Refusal}
use Rattle.desk.specs.declared.Found as entry
use Rattle.desk.specs.declared.NotFound.{NotFound}
use Rattle.desk.specs.declared.NotFound.TheVariants.{NoItem as Nothing, Absent as Left, Refused as Not}

-- an item's entry and its place; that the path leads to no such item; the place of the first option on the path that is absent; or the
-- reading's own refusal
abbrev pub FindAnswer : Type 0
FindAnswer = Result entry.Found NotFound

abbrev pub Found : (first second place : ℕ) → FindAnswer
Found first second place = Ok (record { first = first; second = second; place = place })

pattern abbrev pub NoItem : FindAnswer
NoItem = Err Nothing

pattern abbrev pub Absent : (place : ℕ) → FindAnswer
Absent place = Err (Left place)

pattern abbrev pub Refused : Refusal → (place : ℕ) → FindAnswer
Refused why place = Err (Not why place)
