-- Where two shapes part, and what is answered of two tables.
-- Assumes nothing.
use Rattle.std.specs.Prelude.{true, false, List, [], ◌∷◌, ℕ, ◌+◌, length, Err}
use Rattle.wire.specs.Checked.{Checked}
use Rattle.wire.specs.Checked.{Good, Bad}
use Rattle.wire.specs.AskAnswer.{AskAnswer}
use Rattle.wire.specs.AskAnswer.{Says, Refused as NotAsked, ShortArea as NotEnough}
use Rattle.wire.specs.Tests.{pick, given}
use Rattle.wire.specs.Shape.{same_kind, Shape, node, Shapes, none, more}
use Rattle.wire.specs.Table.{check, shape_of}
use Rattle.wire.specs.Append.{matches}
use Rattle.wire.specs.Answers.{ask_by, asks}
use Rattle.parting.specs.PartAnswer.{PartAnswer}
use Rattle.parting.specs.PartAnswer.{Appends, Apart, Refused, ShortArea}

-- where an old shape and a new one part: from the root down, the position of the first child, in the shapes' order, that doesn't match; none where the two differ by themselves, in their kinds or in how many children they have
unfoldable mutual
  pub parting : Shape → Shape → List ℕ
  parting (node k ss) (node l ts) = given (same_kind k l) (λ _. parting_of 0 ss ts) []

  -- the same of the children from a position on
  pub parting_of : ℕ → Shapes → Shapes → List ℕ
  parting_of c none ts = []
  parting_of c (more s ss) none = []
  parting_of c (more s ss) (more t ts) = pick {X = Unit {0} → List ℕ} (matches s t) (λ _. parting_of (c + 1) ss ts) (λ _. c ∷ parting s t) tt

-- where two tables part: nowhere unless both are good
unfoldable pub parting_by : Checked → Checked → List ℕ → List ℕ → List ℕ
parting_by (Good l) (Good m) old new = parting (shape_of old l) (shape_of new m)
parting_by (Good l) (Err r) old new = []
parting_by (Err r) c old new = []

-- an answer, and the positions that it stores
pub record Parted : Type 0 where
  pub answer : PartAnswer
  pub positions : List ℕ

-- what is answered after the append question, where the tables part at p
unfoldable pub parted_by : AskAnswer → (p : List ℕ) → Parted
parted_by (Says true) p = record { answer = Appends; positions = [] }
parted_by (Says false) p = record { answer = Apart (length p); positions = p }
parted_by (NotAsked t e i) p = record { answer = Refused t e i; positions = [] }
parted_by NotEnough p = record { answer = ShortArea; positions = [] }

-- what is answered of an old table and a new one, with a work area
unfoldable pub parted : (old new area : List ℕ) → Parted
parted old new area = parted_by (asks old new area) (parting_by (check old) (check new) old new)

-- the same where the area is long enough
unfoldable pub parted_within : (old new : List ℕ) → Parted
parted_within old new = parted_by (ask_by (check old) (check new) old new) (parting_by (check old) (check new) old new)
