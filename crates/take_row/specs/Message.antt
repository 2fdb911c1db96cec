-- How the taking of a row ends, in the words of the rules.
-- Assumes nothing.
use Rattle.std.specs.Prelude.{ℕ, Result, Ok, Err}
use Rattle.take_number.specs.declared.Stop.{Stop}

-- the length of its message, or where it stops being a row
abbrev pub Message : Type 0
Message = Result ℕ Stop

pattern abbrev pub Laid : (len : ℕ) → Message
Laid len = Ok len

abbrev pub Stops : (at : ℕ) → Message
Stops at = Err (record { at = at })
