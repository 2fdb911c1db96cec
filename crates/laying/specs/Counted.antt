-- How many rows are laid, in the words of the rules.
-- Assumes nothing.
use Rattle.std.specs.Prelude.{ℕ, Result, Ok, Err}
use Rattle.wire.specs.declared.Refusal.{Refusal}
use Rattle.wire.specs.declared.RefusedAt.{RefusedAt}
use Rattle.laying.specs.declared.Tally.{Tally}

-- how many, and where the last of them stands; or why a message is refused, and where
abbrev pub Counted : Type 0
Counted = Result Tally RefusedAt

abbrev pub All : (count : ℕ) → (last : ℕ) → Counted
All count last = Ok (record { count = count; last = last })

abbrev pub Stopped : (why : Refusal) → (place : ℕ) → Counted
Stopped why place = Err (record { why = why; place = place })
