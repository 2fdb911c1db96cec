-- What writing leaves, and the key fields that it goes by.
-- Assumes nothing.
use Rattle.std.specs.Prelude.{◌≡◌, List, ℕ}
use Rattle.wire.specs.declared.Layout.{Layout}
use Rattle.wire.specs.Table.{shape_of}
use Rattle.desk.specs.BatchWritten.{BatchWritten}
use Rattle.desk.specs.Messages.{split}
use Rattle.desk.specs.Batch.{Or, after, split_by, sized, in_room, batch_of, written_answer, out_with}
use Rattle.messages.specs.declared.Fields.{Fields}
use Rattle.messages.specs.Fields.{keys_of, KeyedBy}

-- the answer, and the output as the call returns
pub record Writes (made : Or (List ℕ)) (out : List ℕ) (answer : BatchWritten) (after : List ℕ) : Type 0 where
  pub answered : answer ≡ written_answer made
  pub stored : after ≡ out_with made out

-- the key fields at two places of a good table's root
pub record Fitting (table : List ℕ) (l : Layout) (f : Fields) (store product : ℕ) : Type 0 where
  pub by : KeyedBy table l f
  pub is : keys_of table l f ≡ record { shape = shape_of table l; store = store; product = product }

-- what comes after the key fields
unfoldable pub made_by : (table : List ℕ) → Layout → Fields → (messages : List ℕ) (room : ℕ) → Or (List ℕ)
made_by table l f messages room =
    after (split_by (split (keys_of table l f) messages)) (λ ms. after (sized ms) (λ ms. in_room room (batch_of (keys_of table l f) ms)))
