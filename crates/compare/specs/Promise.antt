-- That the contract of the public call leaves no choice.
-- Assumes nothing.
use Rattle.std.specs.Prelude.{◌≡◌, List, ℕ}
use Rattle.laws.specs.Unique.{Unique}
use Rattle.desk.specs.CompareAnswer.{CompareAnswer}
use Rattle.desk.specs.Differ.{Answered, compare_answer, list_after}

-- the answer, and the list as it is left, are those of a comparison
pub record Compares (w : Answered) (list : List ℕ) (a : CompareAnswer) (left : List ℕ) : Type 0 where
  pub answered : a ≡ compare_answer w list
  pub listed : left ≡ list_after w list

-- One answer, and one list, meet the contract of `compare`: it names one comparison.
abbrev pub OneComparison : Type 0
OneComparison = (w : Answered) (list : List ℕ) → Unique (λ (r : CompareAnswer × List ℕ). Compares w list r.0 r.1)
