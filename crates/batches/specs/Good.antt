-- A good batch, as a relation.
-- Assumes nothing.
use Rattle.std.specs.Prelude.{◌≡◌, List, ℕ}
use Rattle.wire.specs.Shape.{Shape}
use Rattle.desk.specs.BatchChecked.{Good}
use Rattle.desk.specs.Rows.{sort}
use Rattle.desk.specs.Messages.{Message, rows_of}
use Rattle.batches.specs.Reads.{Reads}
use Rattle.desk.specs.Batch.{so, tabled, Parts, opened, batch_check}

-- the table has a shape, the trailer gives the batch its parts, the bytes before the rows are messages end to end,
-- and the rows are one for each message, sorted
pub record IsGood (table batch : List ℕ) : Type 0 where
  pub shape : Shape
  pub parts : Parts
  pub messages : List Message
  pub has_shape : tabled table ≡ so shape
  pub has_parts : opened shape batch ≡ so parts
  pub reads : Reads parts.keys parts.front messages
  pub rows : parts.rows ≡ sort (rows_of 0 messages)

-- the check passes exactly these
abbrev pub CheckIsGood : Type 0
CheckIsGood = (table batch : List ℕ) → (batch_check table batch ≡ Good → IsGood table batch) × (IsGood table batch → batch_check table batch ≡ Good)
