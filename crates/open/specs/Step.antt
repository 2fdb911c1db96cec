-- How far a step came, in the words of the rules.
-- Assumes nothing.
use Rattle.std.specs.Prelude.{ℕ, Result, Ok, Err}
use Rattle.wire.specs.declared.Refusal.{Refusal}
use Rattle.wire.specs.declared.Stopped.{Stopped}
use Rattle.open.specs.declared.Turned.{Turned}

-- so many are left, of a row's numbers or of the open items; or why the reading is refused
abbrev pub Step : Type 0
Step = Result Turned Stopped

abbrev pub On : (left : ℕ) → (place : ℕ) → (count : ℕ) → Step
On left place count = Ok (record { left = left; place = place; count = count })

abbrev pub Refused : (why : Refusal) → (place : ℕ) → (count : ℕ) → Step
Refused why place count = Err (record { why = why; place = place; count = count })
