-- That the contract of the public call leaves no choice.
-- Assumes nothing.
use Rattle.std.specs.Prelude.{◌≡◌, List, ℕ}
use Rattle.laws.specs.Unique.{Unique}
use Rattle.desk.specs.FindAnswer.{FindAnswer}
use Rattle.desk.specs.Path.{finds}

-- One answer meets the contract of `find`.
abbrev pub OneFind : Type 0
OneFind = (table path message : List ℕ) → Unique (λ (r : FindAnswer). r ≡ finds table path message)
