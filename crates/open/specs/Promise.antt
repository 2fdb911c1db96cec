-- That this reader answers as the first one does, and that the contracts of the public calls leave no choice.
-- Assumes nothing.
use Rattle.std.specs.Prelude.{◌≡◌, List, ℕ, ◌≤◌, length}
use Rattle.wire.specs.ReadAnswer.{ReadAnswer}
use Rattle.wire.specs.Reading.{Run}
use Rattle.wire.specs.Answers.{rest_of}
use Rattle.laws.specs.Unique.{Unique}
use Rattle.laws.specs.Answered.{Reads}
use Rattle.desk.specs.OpenAnswer.{OpenAnswer}
use Rattle.desk.specs.Listed.{list_words, open_answer, open_rest, ReadsListed}

-- One answer, one store and one list meet the contract of `read`, and that of `read_strict`: each names one run.
abbrev pub OneListed : Type 0
OneListed = (run : Run) (store list : List ℕ) → Unique (λ (r : OpenAnswer × List ℕ × List ℕ). ReadsListed run store list r.0 r.1 r.2)

-- With a list that is long enough it gives the first reader's answer, with its place and count, its store and its rest: of any run, so of the plain and of the strict reading.
abbrev pub SameAsFirst : Type 0
SameAsFirst =
    (run : Run) (store list message left left' list' : List ℕ) (a : ReadAnswer) (b : OpenAnswer)
    → list_words ≤ length list
    → Reads run store a left
    → ReadsListed run store list b left' list'
    → (b ≡ open_answer a) × (left' ≡ left) × (open_rest message b ≡ rest_of message a)
