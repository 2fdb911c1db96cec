-- What is answered of where two tables part, in the words of the rules.
-- Assumes nothing.
use Rattle.std.specs.Prelude.{ℕ, Result, Ok, Err}
use Rattle.wire.specs.declared.Refusal.{Refusal}
use Rattle.wire.specs.declared.Side.{Side}
use Rattle.wire.specs.declared.NotAsked.{NotAsked}
use Rattle.wire.specs.declared.NotAsked.TheVariants.{Table, ShortArea as TooShort}
use Rattle.parting.specs.declared.Parting as tables
use Rattle.parting.specs.declared.Parting.TheVariants.{Appends as Only, Apart as At}

-- that the new table only appends, or so many positions down they part; or which table is refused, why and at which node; or that the
-- work area is too short
abbrev pub PartAnswer : Type 0
PartAnswer = Result tables.Parting NotAsked

pattern abbrev pub Appends : PartAnswer
Appends = Ok Only

pattern abbrev pub Apart : (depth : ℕ) → PartAnswer
Apart depth = Ok (At depth)

pattern abbrev pub Refused : Side → Refusal → (place : ℕ) → PartAnswer
Refused side why place = Err (Table side why place)

pattern abbrev pub ShortArea : PartAnswer
ShortArea = Err TooShort
