-- Whether a table has columns, in the words of the rules.
-- Assumes nothing.
use Rattle.std.specs.Prelude.{ℕ, Option, Some, None}
use Rattle.columns.specs.declared.Columns.{Columns}

-- so many fields' numbers, which stand at `from` in the table; or it has no rows
abbrev pub Found : Type 0
Found = Option Columns

abbrev pub Fields : (from : ℕ) → (width : ℕ) → Found
Fields from width = Some (record { from = from; width = width })

pattern abbrev pub Unfit : Found
Unfit = None
