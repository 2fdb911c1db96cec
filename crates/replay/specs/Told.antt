-- The three numbers that an answer of any kind begins with in a list.
-- Assumes nothing.
use Rattle.std.specs.Prelude.{◌≡◌, ℕ, Err, Ok}
use Rattle.wire.specs.ReadAnswer.{ReadAnswer}
use Rattle.wire.specs.ReadAnswer.{Done as Read, Refused as NotRead}
use Rattle.wire.specs.AskAnswer.{AskAnswer}
use Rattle.wire.specs.AskAnswer.{Says, Refused as NotAsked, ShortArea}
use Rattle.wire.specs.Answers.{side_number, yes_number, Numbered}
use Rattle.desk.specs.CompareAnswer.{CompareAnswer}
use Rattle.desk.specs.CompareAnswer.{Done as Compared, Short, Refused as NotCompared, OtherRefused}
use Rattle.replay.specs.declared.told.Told.{Told}

-- document 01's number and place, and a third number
pub record Tells (n : Numbered) (third : ℕ) (r : Told) : Type 0 where
  pub number : r.number ≡ n.number
  pub place : r.second ≡ n.place
  pub last : r.third ≡ third

-- how many entries a reading made
unfoldable pub made : ReadAnswer → ℕ
made (Ok r) = r.count
made (Err r) = r.count

-- 1 for yes, 0 for no; on a refusal 0 for the old table, 1 for the new one; 0 for a short work area
unfoldable pub which : AskAnswer → ℕ
which (Says y) = yes_number y
which (NotAsked t e i) = side_number t
which ShortArea = 0

-- how many pairs a comparison has; on a refusal 1 for the second message, else 0
unfoldable pub pairs_or_which : CompareAnswer → ℕ
pairs_or_which (Compared n) = n
pairs_or_which Short = 0
pairs_or_which (NotCompared e p) = 0
pairs_or_which (OtherRefused e p) = 1
