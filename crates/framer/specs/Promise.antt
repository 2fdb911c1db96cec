-- That the contract of the public call leaves no choice.
-- Assumes nothing.
use Rattle.std.specs.Prelude.{List, ℕ, length}
use Rattle.wire.specs.WriteAnswer.{WriteAnswer}
use Rattle.wire.specs.Sending.{sends}
use Rattle.laws.specs.Answered.{Writes}
use Rattle.laws.specs.Unique.{Unique}

-- One answer, and one output, meet the contract of `frame`.
abbrev pub OneSending : Type 0
OneSending = (message out : List ℕ) → Unique (λ (r : WriteAnswer × List ℕ). Writes (sends message (length out)) out r.0 r.1)
