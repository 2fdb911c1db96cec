-- How the opening of a batch ends, in the words of the rules.
-- Assumes nothing.
use Rattle.std.specs.Prelude.{ℕ, Result, Ok, Err}
use Rattle.desk.specs.declared.Fault.{Fault}
use Rattle.messages.specs.declared.Fields.{Fields}
use Rattle.batch.specs.declared.Parts as batch

-- its key fields, and where its rows start and end; or why it is refused
abbrev pub Opened : Type 0
Opened = Result batch.Parts Fault

abbrev pub Parts : (fields : Fields) → (start end : ℕ) → Opened
Parts fields start end = Ok (record { fields = fields; start = start; end = end })

pattern abbrev pub Refused : Fault → Opened
Refused why = Err why
