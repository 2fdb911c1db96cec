-- The check's promise is its contract, and one answer meets it.
-- Assumes nothing.
use Rattle.std.specs.Prelude.{◌≡◌, List, ℕ}
use Rattle.wire.specs.Checked.{Checked}
use Rattle.wire.specs.Table.{check}
use Rattle.laws.specs.Unique.{Unique}

abbrev pub OneCheck : Type 0
OneCheck = (table : List ℕ) → Unique (λ (r : Checked). r ≡ check table)
