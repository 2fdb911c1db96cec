-- What the comparison of two messages answers, in the words of the rules.
-- Assumes nothing.
use Rattle.std.specs.Prelude.{ℕ, Result, Ok, Err}
use Rattle.wire.specs.declared.Refusal.{Refusal}
use Rattle.desk.specs.declared.NotCompared.{NotCompared}
use Rattle.desk.specs.declared.NotCompared.TheVariants.{Short as TooShort, Refused as One, OtherRefused as Other}

-- how many items differ; that the lent list is too short for them; or a refusal: the table's or the first message's, or the second's
abbrev pub CompareAnswer : Type 0
CompareAnswer = Result ℕ NotCompared

pattern abbrev pub Done : (count : ℕ) → CompareAnswer
Done count = Ok count

pattern abbrev pub Short : CompareAnswer
Short = Err TooShort

pattern abbrev pub Refused : Refusal → (place : ℕ) → CompareAnswer
Refused why place = Err (One why place)

pattern abbrev pub OtherRefused : Refusal → (place : ℕ) → CompareAnswer
OtherRefused why place = Err (Other why place)
