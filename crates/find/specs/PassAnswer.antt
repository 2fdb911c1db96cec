-- How a step along a path ends, in the words of the rules.
-- Assumes nothing.
use Rattle.std.specs.Prelude.{ℕ, Result, Ok, Err}
use Rattle.desk.specs.declared.NotFound.{NotFound}
use Rattle.find.specs.declared.Passed.{Passed}

-- a child further on, at a place, with so many entries made; or why the path's item isn't found
abbrev pub PassAnswer : Type 0
PassAnswer = Result Passed NotFound

abbrev pub In : (node place made : ℕ) → PassAnswer
In node place made = Ok (record { node = node; place = place; made = made })

pattern abbrev pub Out : NotFound → PassAnswer
Out cause = Err cause
