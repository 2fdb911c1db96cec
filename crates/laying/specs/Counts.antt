-- Messages that were counted.
-- Assumes nothing.
use Rattle.std.specs.Prelude.{◌≡◌, List, [], ◌++◌, ℕ, ◌+◌, ◌*◌, ◌^◌, ◌<◌, length, ltb}
use Rattle.wire.specs.declared.Refusal.{Refusal}
use Rattle.desk.specs.Rows.{rows_bytes}
use Rattle.desk.specs.Messages.{Message, Split, whole, broken, rows_of}
use Rattle.wire.specs.Numbers.{little_bytes}
use Rattle.desk.specs.Batch.{offsets_fit}
use Rattle.batches.specs.Fit.{RowsFit}
use Rattle.sorting.specs.Sorted.{sorted_bytes}
use Rattle.laying.specs.Counted.{Counted}
use Rattle.laying.specs.Counted.{All, Stopped}

-- so many messages, whose offsets fit exactly if the last one's does; or where they break off
pub data Counts : Split → Counted → Type 0 where
  counts : {ms : List Message} {n last : ℕ} → length ms ≡ n → offsets_fit (rows_of 0 ms) ≡ ltb last (2 ^ 32) → Counts (whole ms) (All n last)
  breaks : {why : Refusal} {p : ℕ} → Counts (broken why p) (Stopped why p)

-- the bytes of one row for each message, in the messages' order
unfoldable pub rows_for : Split → List ℕ
rows_for (whole ms) = rows_bytes (rows_of 0 ms)
rows_for (broken why p) = []

-- bytes that are messages to their end, and memory for as many rows
pub record Whole (x : Split) (rows : List ℕ) : Type 0 where
  pub them : List Message
  pub is : x ≡ whole them
  pub room : length rows ≡ 16 * length them

-- ---- a batch laid out

-- a trailer's bytes
unfoldable pub ending : (count store product : ℕ) → List ℕ
ending count store product = little_bytes 4 count ++ (little_bytes 4 (16 * count) ++ (little_bytes 2 store ++ little_bytes 2 product))

-- messages to the bytes' end whose rows fit their fields, and memory for their batch
pub record Laid (x : Split) (bytes : List ℕ) (count : ℕ) (out : List ℕ) : Type 0 where
  pub them : List Message
  pub is : x ≡ whole them
  pub many : length them ≡ count
  pub fits : RowsFit (rows_of 0 them)
  pub few : 16 * count < 2 ^ 32
  pub room : length out ≡ length bytes + (16 * count + 12)

-- the messages as they were, their rows sorted, and the trailer
unfoldable pub batch_for : Split → (bytes : List ℕ) (count store product : ℕ) → List ℕ
batch_for x bytes count store product = bytes ++ (sorted_bytes (rows_for x) ++ ending count store product)
