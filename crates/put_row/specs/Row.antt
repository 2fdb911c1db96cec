-- How the laying of a row ends, in the words of the rules.
-- Assumes nothing.
use Rattle.std.specs.Prelude.{ℕ, Result, Ok, Err}
use Rattle.wire.specs.declared.Refusal.{Refusal}
use Rattle.wire.specs.declared.RefusedAt.{RefusedAt}
use Rattle.put_row.specs.declared.Laid as row

-- the place behind its message and its length, or why it is refused and where
abbrev pub Row : Type 0
Row = Result row.Laid RefusedAt

abbrev pub Laid : (place : ℕ) → (len : ℕ) → Row
Laid place len = Ok (record { place = place; len = len })

abbrev pub Refused : (why : Refusal) → (place : ℕ) → Row
Refused why place = Err (record { why = why; place = place })
