-- That the contracts of the public calls leave no choice.
-- Assumes nothing.
use Rattle.std.specs.Prelude.{◌≡◌, List, ℕ}
use Rattle.wire.specs.ReadAnswer.{ReadAnswer}
use Rattle.wire.specs.Reading.{Run}
use Rattle.wire.specs.Answers.{skims, rest_of}
use Rattle.laws.specs.Answered.{Reads}
use Rattle.laws.specs.Unique.{Unique}

-- One answer, and one store, meet the contract of `read`, and that of `read_strict`: each names one run.
abbrev pub OneReading : Type 0
OneReading = (run : Run) (store : List ℕ) → Unique (λ (r : ReadAnswer × List ℕ). Reads run store r.0 r.1)

-- One part meets the contract of `rest`.
abbrev pub OneRest : Type 0
OneRest = (message : List ℕ) (a : ReadAnswer) → Unique (λ (r : List ℕ). r ≡ rest_of message a)

-- One answer meets the contract of `skim`.
abbrev pub OneSkim : Type 0
OneSkim = (table message : List ℕ) (room : ℕ) → Unique (λ (r : ReadAnswer). r ≡ skims table message room)
