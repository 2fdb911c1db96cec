-- A comparison's refusal, and its pairs as they are kept before they are written.
-- Assumes nothing.
use Rattle.std.specs.Prelude.{◌≡◌, List, ℕ, length}
use Rattle.desk.specs.CompareAnswer.{CompareAnswer}
use Rattle.desk.specs.CompareAnswer.{Short}
use Rattle.desk.specs.Differ.{Pair, Answered, pairs, refuses}
use Rattle.compare_item.specs.Pairs.{pairs_from}

-- a comparison's refusal; a list that is too short stands for none
unfoldable pub refusal_of : Answered → CompareAnswer
refusal_of (pairs ps) = Short
refusal_of (refuses a) = a

-- so many pairs were laid into words, those that these have room for
pub record Kept (w : Answered) (c : ℕ) (words : List ℕ) : Type 0 where
  pub them : List Pair
  pub empty : List ℕ
  pub answered : w ≡ pairs them
  pub counted : c ≡ length them
  pub listed : words ≡ pairs_from them 0 empty
