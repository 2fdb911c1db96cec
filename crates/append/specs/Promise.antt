-- That the contract of the append question leaves no choice.
-- Assumes nothing.
use Rattle.std.specs.Prelude.{List, ℕ}
use Rattle.wire.specs.AskAnswer.{AskAnswer}
use Rattle.laws.specs.Answered.{Asks}
use Rattle.laws.specs.Unique.{Unique}

-- One answer, and one area, meet the contract.
abbrev pub OneAnswer : Type 0
OneAnswer = (old new area : List ℕ) → Unique (λ (r : AskAnswer × List ℕ). Asks old new area r.0 r.1)
