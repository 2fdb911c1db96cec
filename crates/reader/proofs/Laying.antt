-- Where a run was left, as an answer.
-- Assumes nothing.
use mathlib.Core.Path.{◌≡◌, refl}
use mathlib.Core.List.{List}
use Prim.Native.Nat.{ℕ}
use Rattle.wire.specs.declared.Refusal.{Refusal}
use Rattle.wire.specs.ReadAnswer.{ReadAnswer}
use Rattle.wire.specs.ReadAnswer.{Done, Refused}
use Rattle.wire.specs.Reading.{Spot, reached, refused}
use Rattle.wire.specs.Answers.{read_answer}
use Rattle.read_item.specs.Lay.{Left}
use Rattle.read_item.proofs.Laying.{left}
use Rattle.reader.specs.Steps.{Gives}

pub gives-refused : {w : Left} {e : Refusal} {p m : ℕ} {s : List ℕ} → w ≡ left (refused e p) m s → Gives w (Refused e p m) s
unfolding read_answer
gives-refused e = rw e (record { answered = refl; stored = refl })

pub gives-done : {w : Left} (x : Spot) {m : ℕ} {s : List ℕ} → w ≡ left (reached x) m s → Gives w (Done x.place m) s
unfolding read_answer
gives-done x e = rw e (record { answered = refl; stored = refl })

-- the same answer by another name
pub gives_as : {w : Left} {a b : ReadAnswer} {st : List ℕ} → a ≡ b → Gives w a st → Gives w b st
gives_as e g = rw e at g
