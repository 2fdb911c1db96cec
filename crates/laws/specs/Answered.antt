-- An answer and lent memory that are those of a reading, of a writing or of the append question: what the contracts of these calls say, and the promises about what they leave.
-- Assumes nothing.
use Rattle.std.specs.Prelude.{◌≡◌, List, ℕ}
use Rattle.wire.specs.ReadAnswer.{ReadAnswer}
use Rattle.wire.specs.WriteAnswer.{WriteAnswer}
use Rattle.wire.specs.AskAnswer.{AskAnswer}
use Rattle.wire.specs.Reading.{Run}
use Rattle.wire.specs.Answers.{run_answer, store_with, Form, write_answer, out_with, asks, area_after}

-- the answer, and the store as it is left, are those of a run
pub record Reads (w : Run) (store : List ℕ) (a : ReadAnswer) (left : List ℕ) : Type 0 where
  pub answered : a ≡ run_answer w
  pub stored : left ≡ store_with w.made store

-- the answer, and the output as it is left, are those of a form
pub record Writes (f : Form) (out : List ℕ) (a : WriteAnswer) (left : List ℕ) : Type 0 where
  pub answered : a ≡ write_answer f
  pub stored : left ≡ out_with f out

-- the answer, and the work area as it is left, are those of the question
pub record Asks (old new area : List ℕ) (a : AskAnswer) (left : List ℕ) : Type 0 where
  pub answered : a ≡ asks old new area
  pub stored : left ≡ area_after area
