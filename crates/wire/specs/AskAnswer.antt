-- What the append question answers, in the words of the rules.
-- Assumes nothing.
use Rattle.std.specs.Prelude.{ℕ, Bool, Result, Ok, Err}
use Rattle.wire.specs.declared.Refusal.{Refusal}
use Rattle.wire.specs.declared.Side.{Side}
use Rattle.wire.specs.declared.NotAsked.{NotAsked}
use Rattle.wire.specs.declared.NotAsked.TheVariants.{Table, ShortArea as TooShort}

-- yes or no; or which table is refused, why and at which node; or that its work area is too short
abbrev pub AskAnswer : Type 0
AskAnswer = Result Bool NotAsked

pattern abbrev pub Says : Bool → AskAnswer
Says told = Ok told

pattern abbrev pub Refused : Side → Refusal → (place : ℕ) → AskAnswer
Refused side why place = Err (Table side why place)

pattern abbrev pub ShortArea : AskAnswer
ShortArea = Err TooShort
