-- Whether key fields are found, in the words of the rules.
-- Assumes nothing.
use Rattle.std.specs.Prelude.{ℕ, Option, Some, None}
use Rattle.messages.specs.declared.Fields.{Fields}

-- where they stand, or that they are unfit
abbrev pub Found : Type 0
Found = Option Fields

pattern abbrev pub At : (fields : Fields) → Found
At fields = Some fields

pattern abbrev pub Unfit : Found
Unfit = None
