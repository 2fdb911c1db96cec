-- What a reading with a lent list of open items answers, in the words of the rules.
-- Assumes nothing.
use Rattle.std.specs.Prelude.{ℕ, Result, Ok, Err}
use Rattle.wire.specs.declared.Refusal.{Refusal}
use Rattle.wire.specs.declared.Reached.{Reached}
use Rattle.desk.specs.declared.NotOpened.{NotOpened}
use Rattle.desk.specs.declared.NotOpened.TheVariants.{Refused as Not, ShortList as TooShort}

-- what a reading does, or that the list is too short
abbrev pub OpenAnswer : Type 0
OpenAnswer = Result Reached NotOpened

abbrev pub Done : (place count : ℕ) → OpenAnswer
Done place count = Ok (record { place = place; count = count })

pattern abbrev pub Refused : Refusal → (place count : ℕ) → OpenAnswer
Refused why place count = Err (Not why place count)

pattern abbrev pub ShortList : OpenAnswer
ShortList = Err TooShort
