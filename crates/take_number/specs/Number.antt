-- How the taking of a number ends, in the words of the rules.
-- Assumes nothing.
use Rattle.std.specs.Prelude.{ℕ, Result, Ok, Err}
use Rattle.take_number.specs.declared.Numeral.{Numeral}
use Rattle.take_number.specs.declared.Stop.{Stop}

-- the number and the place behind it, or where it stops being one
abbrev pub Number : Type 0
Number = Result Numeral Stop

abbrev pub Is : (word : ℕ) → (at : ℕ) → Number
Is word at = Ok (record { word = word; at = at })

abbrev pub Stops : (at : ℕ) → Number
Stops at = Err (record { at = at })
