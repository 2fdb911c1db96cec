-- How a reading ends, in the words of the rules.
-- Assumes nothing.
use Rattle.std.specs.Prelude.{ℕ, Result, Ok, Err}
use Rattle.wire.specs.declared.Refusal.{Refusal}
use Rattle.wire.specs.declared.Reached.{Reached}
use Rattle.wire.specs.declared.Stopped.{Stopped}

-- the bytes read, or a refusal and its place; and the entries made
abbrev pub ReadAnswer : Type 0
ReadAnswer = Result Reached Stopped

abbrev pub Done : (place count : ℕ) → ReadAnswer
Done place count = Ok (record { place = place; count = count })

abbrev pub Refused : Refusal → (place count : ℕ) → ReadAnswer
Refused why place count = Err (record { why = why; place = place; count = count })
