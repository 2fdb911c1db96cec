-- How the taking of a field ends, in the words of the rules.
-- Assumes nothing.
use Rattle.std.specs.Prelude.{ℕ, Result, Ok, Err}
use Rattle.take_number.specs.declared.Stop.{Stop}
use Rattle.take_field.specs.declared.Took as field

-- the place behind it and the length of its form, or where it stops being one
abbrev pub Field : Type 0
Field = Result field.Took Stop

abbrev pub Took : (at : ℕ) → (len : ℕ) → Field
Took at len = Ok (record { at = at; len = len })

abbrev pub Stops : (at : ℕ) → Field
Stops at = Err (record { at = at })
