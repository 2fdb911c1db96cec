-- What the whole check of a batch answers, in the words of the rules.
-- Assumes nothing.
use Rattle.std.specs.Prelude.{⊤, Result, Ok, Err}
use Rattle.desk.specs.declared.Fault.{Fault}

-- that the batch is good, or why it is not
abbrev pub BatchChecked : Type 0
BatchChecked = Result ⊤ Fault

pattern abbrev pub Good : BatchChecked
Good = Ok tt

pattern abbrev pub Bad : Fault → BatchChecked
Bad why = Err why
