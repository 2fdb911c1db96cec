-- How a writing ends, in the words of the rules.
-- Assumes nothing.
use Rattle.std.specs.Prelude.{ℕ, Result, Ok, Err}
use Rattle.wire.specs.declared.Refusal.{Refusal}
use Rattle.wire.specs.declared.RefusedAt.{RefusedAt}

-- the bytes written, or a refusal and its place
abbrev pub WriteAnswer : Type 0
WriteAnswer = Result ℕ RefusedAt

pattern abbrev pub Done : (place : ℕ) → WriteAnswer
Done place = Ok place

abbrev pub Refused : Refusal → (place : ℕ) → WriteAnswer
Refused why place = Err (record { why = why; place = place })
