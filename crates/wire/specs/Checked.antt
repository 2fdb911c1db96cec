-- What a table's check answers, in the words of the rules.
-- Assumes nothing.
use Rattle.std.specs.Prelude.{ℕ, Result, Ok, Err}
use Rattle.wire.specs.declared.Refusal.{Refusal}
use Rattle.wire.specs.declared.RefusedAt.{RefusedAt}
use Rattle.wire.specs.declared.Layout.{Layout}

-- where a table's parts stand, or why it is refused and at which node
abbrev pub Checked : Type 0
Checked = Result Layout RefusedAt

pattern abbrev pub Good : Layout → Checked
Good layout = Ok layout

abbrev pub Bad : Refusal → (place : ℕ) → Checked
Bad why place = Err (record { why = why; place = place })
