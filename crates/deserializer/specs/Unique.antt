-- Each call's contract leaves no choice, of the answer and of the record.
-- Assumes nothing.
use Rattle.std.specs.Prelude.{◌≡◌, List, ℕ, drop}
use Rattle.std.specs.Borrow.{Bor}
use Rattle.wire.specs.TakeAnswer.{TakeAnswer}
use Rattle.wire.specs.Answers.{takes, place_after}
use Rattle.laws.specs.Unique.{Unique}
use Rattle.deserializer.specs.declared.Deserializer.{Deserializer}
use Rattle.deserializer.specs.Records.{fresh, takes_next, moved, rest_from}

abbrev pub OneTakeAt : Type 0
OneTakeAt = (k : ℕ) (message : List ℕ) (p : ℕ) → Unique (λ (r : TakeAnswer). r ≡ takes k message p)

abbrev pub OnePlaceAfter : Type 0
OnePlaceAfter = (p : ℕ) (a : TakeAnswer) → Unique (λ (r : ℕ). r ≡ place_after p a)

abbrev pub OneRestAt : Type 0
OneRestAt = (message : List ℕ) (p : ℕ) → Unique (λ (r : List ℕ). r ≡ drop p message)

abbrev pub OneNew : Type 0
OneNew = (message : Bor (List ℕ)) → Unique (λ (r : Deserializer). r ≡ fresh message)

-- the answer, and the record at exit
abbrev pub OneRecordTake : Type 0
OneRecordTake = (k : ℕ) (d : Deserializer) → Unique (λ (x : TakeAnswer × Deserializer). (x.0 ≡ takes_next k d) × (x.1 ≡ moved d x.0))

abbrev pub OneRecordRest : Type 0
OneRecordRest = (d : Deserializer) → Unique (λ (r : List ℕ). r ≡ rest_from d)
