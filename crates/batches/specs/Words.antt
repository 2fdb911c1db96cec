-- The word of a field, among the entries that a full reading makes.
-- Assumes nothing.
use Rattle.std.specs.Prelude.{◌≡◌, List, ◌∷◌, ◌++◌, ℕ, zero, suc, ◌<◌}
use Rattle.wire.specs.Shape.{Shapes, count}
use Rattle.wire.specs.Shape as shapes
use Rattle.wire.specs.Values.{Entry}
use Rattle.wire.specs.Reading.{Spot, reached, head, reading}
use Rattle.laws.specs.Steps.{row}
use Rattle.desk.specs.Messages.{word_at}

-- the fields in front of a place
unfoldable pub in_front : ℕ → Shapes → Shapes
in_front i shapes.none = shapes.none
in_front zero (shapes.more t ts) = shapes.none
in_front (suc i) (shapes.more t ts) = shapes.more t (in_front i ts)

-- behind the entries of the fields in front stands the field's own, and its first word is `word_at`
pub record Stands (ts : Shapes) (i : ℕ) (x : Spot) (es : List Entry) : Type 0 where
  pub own : Entry
  pub others : List Entry
  pub made : es ≡ (row (reading head) (in_front i ts) x).made ++ own ∷ others
  pub word : own.first ≡ word_at ts i x

abbrev pub WordStands : Type 0
WordStands = (ts : Shapes) (i : ℕ) (x z : Spot) (es : List Entry) → i < count ts → row (reading head) ts x ≡ record { made = es; ends = reached z } → Stands ts i x es
