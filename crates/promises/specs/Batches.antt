-- T-08: what is promised of night batches, of the answers and the lent memory of writing, of the whole check and of the search.
-- Assumes nothing.
use Rattle.std.specs.Prelude.{◌≡◌, List, [], ◌↔◌, ℕ, ◌+◌, ◌^◌, ◌≤◌, length, take, drop}
use Rattle.wire.specs.declared.Refusal.{Refusal}
use Rattle.wire.specs.Checked.{Bad as BadTable}
use Rattle.wire.specs.Shape.{Shape}
use Rattle.wire.specs.Table.{check}
use Rattle.laws.specs.Range.{AreBytes}
use Rattle.desk.specs.declared.Fault.{Fault}
use Rattle.desk.specs.declared.Fault.TheVariants.{Wire, Fields, Batch as BadBatch, Missing}
use Rattle.desk.specs.BatchWritten.{Done as Written, Refused as NotWritten}
use Rattle.desk.specs.BatchChecked.{Good}
use Rattle.desk.specs.BatchFound.{BatchFound}
use Rattle.desk.specs.BatchFound.{Part as Found, Refused as NotFound}
use Rattle.desk.specs.declared.Key.{Key}
use Rattle.desk.specs.Messages.{Message, next, next_of, rows_of}
use Rattle.desk.specs.Batch.{so, tabled, Parts, opened, finds_from_front, found_answer, batch_write, batch_write_out, batch_check, part_of}
use Rattle.batches.specs.Good.{IsGood}
use Rattle.batches.specs.Sorted.{Sorts}
use Rattle.batches.specs.Search.{Searched}

-- ---- writing

-- What was written passes the whole check.
abbrev pub WrittenPasses : Type 0
WrittenPasses = (table messages : List ℕ) (store product : ℕ) (out : List ℕ) (n : ℕ) → batch_write table messages store product out ≡ Written n
    → batch_check table (take n (batch_write_out table messages store product out)) ≡ Good

-- The output holds the messages' bytes unchanged in front, and behind what was written it is as before.
pub record Holds (messages out left : List ℕ) (n : ℕ) : Type 0 where
  pub front : take (length messages) left ≡ messages
  pub within : length messages ≤ n
  pub room : n ≤ length out
  pub behind : drop n left ≡ drop n out

abbrev pub WrittenHolds : Type 0
WrittenHolds = (table messages : List ℕ) (store product : ℕ) (out : List ℕ) (n : ℕ) → batch_write table messages store product out ≡ Written n
    → Holds messages out (batch_write_out table messages store product out) n

-- A refusal changes nothing.
abbrev pub RefusedKeeps : Type 0
RefusedKeeps = (table messages : List ℕ) (store product : ℕ) (out : List ℕ) (why : Fault) → batch_write table messages store product out ≡ NotWritten why
    → batch_write_out table messages store product out ≡ out

-- ---- the whole check

-- It is exact.
abbrev pub CheckExactly : Type 0
CheckExactly = (table batch : List ℕ) → (batch_check table batch ≡ Good) ↔ IsGood table batch

-- The rows of a good batch are in order, and they are its messages' rows, each as often.
abbrev pub GoodRows : Type 0
GoodRows = (table batch : List ℕ) (good : IsGood table batch) → Sorts (rows_of 0 good.messages) good.parts.rows

-- ---- the search

-- On a batch that passes the whole check, the answer is that of reading every message from the front, 19 included.
abbrev pub LastFromFront : Type 0
LastFromFront = (table batch : List ℕ) (k : Key) (answer : BatchFound) → batch_check table batch ≡ Good → Searched table batch k answer
    → answer ≡ found_answer (finds_from_front table batch k)

-- On any batch a part that is found lies before the rows, and is one message that is read whole.
pub record Lies (table batch : List ℕ) (from len : ℕ) : Type 0 where
  pub shape : Shape
  pub parts : Parts
  pub has_shape : tabled table ≡ so shape
  pub has_parts : opened shape batch ≡ so parts
  pub inside : from + len ≤ length parts.front
  pub message : Message
  pub reads : next_of parts.keys (part_of batch (Found from len)) ≡ next message []
  pub bytes : message.bytes ≡ part_of batch (Found from len)
  pub long : length message.bytes ≡ len

abbrev pub FoundLies : Type 0
FoundLies = (table batch : List ℕ) (k : Key) (from len : ℕ) → Searched table batch k (Found from len) → Lies table batch from len

-- On any batch a refusal is 1 or 2, which are the table's, or 17, 18 or 19.
pub data Refuses (table : List ℕ) : Fault → Type 0 where
  table-bad : {why : Refusal} {i : ℕ} → check table ≡ BadTable why i → Refuses table (Wire why i)
  fields-unfit : Refuses table Fields
  batch-bad : Refuses table BadBatch
  no_key : Refuses table Missing

abbrev pub SearchRefuses : Type 0
SearchRefuses = (table batch : List ℕ) (k : Key) (why : Fault) → Searched table batch k (NotFound why) → Refuses table why

-- A store number above 2^32 - 1 is in no row: 19, once the trailer is good.
abbrev pub LargeStores : Type 0
LargeStores = (table batch : List ℕ) (k : Key) (answer : BatchFound) (t : Shape) (b : Parts) → tabled table ≡ so t → opened t batch ≡ so b
    → AreBytes batch → 2 ^ 32 ≤ k.store → Searched table batch k answer → answer ≡ NotFound Missing
