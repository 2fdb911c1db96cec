-- A batch as code takes it apart, and what the rows in front of a turn lead to.
-- Assumes nothing.
use Rattle.std.specs.Prelude.{◌≡◌, List, ℕ, ◌+◌, ◌-◌, ◌≤◌, length, take, drop}
use Rattle.wire.specs.declared.Layout.{Layout}
use Rattle.wire.specs.Table.{shape_of}
use Rattle.desk.specs.declared.Fault.{Fault}
use Rattle.desk.specs.declared.Key.{Key}
use Rattle.desk.specs.BatchFound.{BatchFound}
use Rattle.desk.specs.Batch.{so, fault, Parts, opened, found_in, found_answer}
use Rattle.batches.specs.Search.{Turns, row_before}
use Rattle.row.specs.Ranks.{rows_in}
use Rattle.messages.specs.declared.Fields.{Fields}
use Rattle.messages.specs.Fields.{keys_of, KeyedBy}
use Rattle.batch.specs.Taking.{Opened}
use Rattle.batch.specs.Taking.{Parts as Apart, Refused}

-- the bytes of the rows that start and end there
abbrev pub row_bytes_of : (batch : List ℕ) (start end : ℕ) → List ℕ
row_bytes_of batch start end = take (end - start) (drop start batch)

abbrev pub parts_of : (table : List ℕ) → Layout → (batch : List ℕ) → Fields → (start end : ℕ) → Parts
parts_of table l batch f start end = record { keys = keys_of table l f; front = take start batch; rows = rows_in (row_bytes_of batch start end) }

-- a batch whose trailer is good
pub record Parted (table : List ℕ) (l : Layout) (batch : List ℕ) (f : Fields) (start end : ℕ) : Type 0 where
  pub keyed : KeyedBy table l f
  pub ends : end + 12 ≡ length batch
  pub starts : start ≤ end
  pub is : opened (shape_of table l) batch ≡ so (parts_of table l batch f start end)

pub data Opens (table : List ℕ) (l : Layout) (batch : List ℕ) : Opened → Type 0 where
  parts : {f : Fields} {start end : ℕ} → Parted table l batch f start end → Opens table l batch (Apart f start end)
  refuses : {why : Fault} → opened (shape_of table l) batch ≡ fault why → Opens table l batch (Refused why)

-- a place where the rows turn, and the answer by the row in front of it
pub record Finds (table : List ℕ) (l : Layout) (batch : List ℕ) (f : Fields) (start end : ℕ) (k : Key) (answer : BatchFound) : Type 0 where
  pub turn : ℕ
  pub turns : Turns k (rows_in (row_bytes_of batch start end)) turn
  pub said : answer ≡ found_answer (found_in (parts_of table l batch f start end) (row_before k (rows_in (row_bytes_of batch start end)) turn))
