-- Where the last message of a store and product stands, in the words of the rules.
-- Assumes nothing.
use Rattle.std.specs.Prelude.{ℕ, Result, Ok, Err}
use Rattle.desk.specs.declared.Part as place
use Rattle.desk.specs.declared.Fault.{Fault}

-- a part of the batch, or why there is none
abbrev pub BatchFound : Type 0
BatchFound = Result place.Part Fault

abbrev pub Part : (from len : ℕ) → BatchFound
Part from len = Ok (record { from = from; len = len })

pattern abbrev pub Refused : Fault → BatchFound
Refused why = Err why
