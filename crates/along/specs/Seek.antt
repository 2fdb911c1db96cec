-- One item by its path, along the path: the fields in front are skimmed, and then it goes in. Code follows this way.
-- Letters: t a shape, k its kind, i a child's position, x and y spots.
-- Assumes nothing.
use Rattle.std.specs.Prelude.{List, [], ◌∷◌, ℕ, zero, suc, ◌-◌, length}
use Rattle.wire.specs.declared.Refusal.TheVariants.{Room}
use Rattle.wire.specs.Item.{Item}
use Rattle.wire.specs.Item.{Took, Refused as NotTaken}
use Rattle.wire.specs.Tests.{given}
use Rattle.wire.specs.Shape.{Kind, Shape, node, Shapes, none, more, count}
use Rattle.wire.specs.Values.{Entry}
use Rattle.wire.specs.Reading.{head, Spot, Outcome, reached, refused, past, read, fit}
use Rattle.desk.specs.FindAnswer.{FindAnswer}
use Rattle.desk.specs.FindAnswer.{Found, NoItem, Absent, Refused}
use Rattle.desk.specs.Path.{is_there}

-- behind items that were read with so much room
unfoldable pub seek_on : (room : ℕ) → List Entry → Outcome → (ℕ → Spot → FindAnswer) → FindAnswer
seek_on room es (reached y) next = next (room - length es) y
seek_on room es (refused why p) next = Refused why p

-- an item's own bytes, and what of its children the path wants
unfoldable pub seek_item : Kind → (path : List ℕ) → Item → Spot → (ℕ → List ℕ → Spot → FindAnswer) → FindAnswer
seek_item k path (NotTaken why) x next = Refused why x.place
seek_item k [] (Took own) x next = Found own.first own.second x.place
seek_item k (i ∷ path) (Took own) x next = given (is_there k own.first) (λ _. next i path (past own.used x)) (Absent x.place)

unfoldable mutual
  pub seek : Shape → (path : List ℕ) → (room : ℕ) → Spot → FindAnswer
  seek (node k ts) path zero x = Refused Room x.place
  seek (node k ts) path (suc room) x =
      seek_item k path (head k (count ts) x.place x.bytes) x (λ i rest y. seek_at ts i rest room y)

  -- the fields in front
  pub seek_at : Shapes → ℕ → (path : List ℕ) → (room : ℕ) → Spot → FindAnswer
  seek_at none i path room x = NoItem
  seek_at (more t ts) zero path room x = seek t path room x
  seek_at (more t ts) (suc i) path room x =
      seek_on room (fit room (read t x)).made (fit room (read t x)).ends (λ left y. seek_at ts i path left y)
