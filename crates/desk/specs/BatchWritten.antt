-- How the writing of a batch ends, in the words of the rules.
-- Assumes nothing.
use Rattle.std.specs.Prelude.{ℕ, Result, Ok, Err}
use Rattle.desk.specs.declared.Fault.{Fault}

-- the bytes written, or why it is refused
abbrev pub BatchWritten : Type 0
BatchWritten = Result ℕ Fault

pattern abbrev pub Done : (place : ℕ) → BatchWritten
Done place = Ok place

pattern abbrev pub Refused : Fault → BatchWritten
Refused why = Err why
