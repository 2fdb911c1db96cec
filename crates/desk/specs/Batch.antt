-- The night batch (T-08): messages end to end, sorted rows, and a trailer that points back; what writing, checking and searching
-- make of it, and what they answer.
-- Letters: k a shape with its key fields, or a key, t a shape, s bytes, m a message, b a batch's parts, n how many, p a place, l a layout.
-- Assumes nothing.
use Rattle.std.specs.Prelude.{Bool, true, List, [], ◌∷◌, ◌++◌, ℕ, ◌+◌, ◌-◌, ◌*◌, ◌^◌, length, take, drop, ltb, leb, eqb, Err, Ok}
use Rattle.std.proofs.Math.Option.{Option, none, some}
use Rattle.wire.specs.declared.Refusal.TheVariants.{Full}
use Rattle.wire.specs.Checked.{Checked}
use Rattle.wire.specs.Checked.{Good as GoodTable, Bad as BadTable}
use Rattle.desk.specs.declared.Fault.{Fault}
use Rattle.desk.specs.declared.Fault.TheVariants.{Wire, Fields, Batch as BadBatch, Missing}
use Rattle.desk.specs.BatchWritten.{BatchWritten}
use Rattle.desk.specs.BatchWritten.{Done as Written, Refused as NotWritten}
use Rattle.desk.specs.BatchChecked.{BatchChecked}
use Rattle.desk.specs.BatchChecked.{Good, Bad}
use Rattle.desk.specs.BatchFound.{BatchFound}
use Rattle.desk.specs.BatchFound.{Part as Found, Refused as NotFound}
use Rattle.wire.specs.Tests.{pick, given, both}
use Rattle.wire.specs.Shape.{Shape}
use Rattle.wire.specs.Table.{check, shape_of}
use Rattle.wire.specs.Numbers.{little_bytes}
use Rattle.wire.specs.Answers.{refusal_number, Numbered, done}
use Rattle.desk.specs.declared.Key.{Key}
use Rattle.desk.specs.declared.Row.{Row}
use Rattle.desk.specs.Rows.{same_rows, sort, last_row, number_at, rows_bytes, rows_at}
use Rattle.desk.specs.Messages.{Keyed, is_keyed, Message, Cut, next, stops, next_of, Split, whole, broken, split, joined, rows_of, Part, last_from}

-- ---- refusals in their order

-- what a call makes, or its refusal
pub data Or (A : Type 0) : Type 0 where
  so : A → Or A
  fault : Fault → Or A

-- what comes first refuses first
unfoldable pub after : {A B : Type 0} → Or A → (A → Or B) → Or B
after (so a) f = f a
after (fault why) f = fault why

-- 1 and 2, or the table's shape
unfoldable pub shape_by : Checked → (table : List ℕ) → Or Shape
shape_by (GoodTable l) table = so (shape_of table l)
shape_by (Err r) table = fault (Wire r.why r.place)

unfoldable pub tabled : (table : List ℕ) → Or Shape
tabled table = shape_by (check table) table

-- 17: key fields unfit for the table
unfoldable pub keyed : Keyed → Or Keyed
keyed k = pick (is_keyed k) (so k) (fault Fields)

-- 12: more bytes than the output has room for
unfoldable pub in_room : (room : ℕ) → List ℕ → Or (List ℕ)
in_room room s = pick (leb (length s) room) (so s) (fault (Wire Full 0))

-- ---- the bytes of a batch

-- u32 row count, u32 distance back to the rows, u16 store field, u16 product field
unfoldable pub trailer : ℕ → Keyed → List ℕ
trailer n k = little_bytes 4 n ++ (little_bytes 4 (16 * n) ++ (little_bytes 2 k.store ++ little_bytes 2 k.product))

unfoldable pub batch_of : Keyed → List Message → List ℕ
batch_of k ms = joined ms ++ (rows_bytes (sort (rows_of 0 ms)) ++ trailer (length ms) k)

-- ---- a batch taken apart by its trailer

-- the key fields, the bytes before the rows, and the rows
pub record Parts : Type 0 where
  pub keys : Keyed
  pub front : List ℕ
  pub rows : List Row

-- the distance is 16 times the count, and does not reach beyond the file's start
unfoldable pub good_trailer : (end count distance : ℕ) → Bool
good_trailer end count distance = both (eqb distance (16 * count)) (leb distance end)

unfoldable pub parts_at : (batch : List ℕ) (rows count : ℕ) → Keyed → Parts
parts_at batch rows count k = record { keys = k; front = take rows batch; rows = rows_at count (drop rows batch) }

-- a trailer at `end`: its fields are judged before its numbers
unfoldable pub open_at : Shape → (batch : List ℕ) (end : ℕ) → Or Parts
open_at t batch end =
    after (keyed (record { shape = t; store = number_at 2 (end + 8) batch; product = number_at 2 (end + 10) batch }))
    (λ k. given (good_trailer end (number_at 4 end batch) (number_at 4 (end + 4) batch))
    (λ _. so (parts_at batch (end - number_at 4 (end + 4) batch) (number_at 4 end batch) k)) (fault BadBatch))

-- under 12 bytes: bad, whatever its fields would have been
unfoldable pub opened : Shape → (batch : List ℕ) → Or Parts
opened t batch = given (leb 12 (length batch)) (λ _. open_at t batch (length batch - 12)) (fault BadBatch)

-- ---- writing

-- the reader's own refusal, at its place in the input
unfoldable pub split_by : Split → Or (List Message)
split_by (whole ms) = so ms
split_by (broken why p) = fault (Wire why p)

unfoldable pub offsets_fit : List Row → Bool
offsets_fit [] = true
offsets_fit (r ∷ rs) = both (ltb r.offset (2 ^ 32)) (offsets_fit rs)

-- 18: an offset, the count or the distance does not fit its field
unfoldable pub sized : List Message → Or (List Message)
sized ms =
    pick (both (offsets_fit (rows_of 0 ms)) (both (ltb (length ms) (2 ^ 32)) (ltb (16 * length ms) (2 ^ 32)))) (so ms) (fault BadBatch)

unfoldable pub writes : (table messages : List ℕ) (store product room : ℕ) → Or (List ℕ)
writes table messages store product room =
    after (tabled table) (λ t. after (keyed (record { shape = t; store = store; product = product })) (λ k.
    after (split_by (split k messages)) (λ ms. after (sized ms) (λ ms. in_room room (batch_of k ms)))))

-- ---- the whole check

-- a good batch reads fully up to the rows, and these are one for each message, sorted, its own key and offset in it
unfoldable pub whole_by : List Row → Split → Or (List Message)
whole_by rows (whole ms) = pick (same_rows rows (sort (rows_of 0 ms))) (so ms) (fault BadBatch)
whole_by rows (broken why p) = fault BadBatch

unfoldable pub messages_of : Parts → Or (List Message)
messages_of b = whole_by b.rows (split b.keys b.front)

unfoldable pub checks : (table batch : List ℕ) → Or (List Message)
checks table batch = after (tabled table) (λ t. after (opened t batch) (λ b. messages_of b))

-- ---- the last message of a key, found from the rows

-- the message that is read where a row says; on a batch that the whole check refuses, what is not read there is a bad batch too
unfoldable pub part_by : (at : ℕ) → Cut → Or Part
part_by at (next m rest) = so (record { from = at; len = length m.bytes })
part_by at (stops why p) = fault BadBatch

unfoldable pub found_in : Parts → Option ℕ → Or Part
found_in b none = fault Missing
found_in b (some at) = given (ltb at (length b.front)) (λ _. part_by at (next_of b.keys (drop at b.front))) (fault BadBatch)

unfoldable pub finds_last : (table batch : List ℕ) → Key → Or Part
finds_last table batch k = after (tabled table) (λ t. after (opened t batch) (λ b. found_in b (last_row k b.rows)))

-- the same by reading every message from the front
unfoldable pub or_missing : Option Part → Or Part
or_missing (some p) = so p
or_missing none = fault Missing

unfoldable pub finds_from_front : (table batch : List ℕ) → Key → Or Part
finds_from_front table batch k =
    after (tabled table) (λ t. after (opened t batch) (λ b. after (split_by (split b.keys b.front)) (λ ms. or_missing (last_from k 0 ms))))

-- ---- the public answers

unfoldable pub written_answer : Or (List ℕ) → BatchWritten
written_answer (so s) = Written (length s)
written_answer (fault why) = NotWritten why

-- only the bytes written change
unfoldable pub out_with : Or (List ℕ) → (out : List ℕ) → List ℕ
out_with (so s) out = s ++ drop (length s) out
out_with (fault why) out = out

unfoldable pub checked_answer : Or (List Message) → BatchChecked
checked_answer (so ms) = Good
checked_answer (fault why) = Bad why

unfoldable pub found_answer : Or Part → BatchFound
found_answer (so p) = Found p.from p.len
found_answer (fault why) = NotFound why

unfoldable pub batch_write : (table messages : List ℕ) (store product : ℕ) (out : List ℕ) → BatchWritten
batch_write table messages store product out = written_answer (writes table messages store product (length out))

unfoldable pub batch_write_out : (table messages : List ℕ) (store product : ℕ) (out : List ℕ) → List ℕ
batch_write_out table messages store product out = out_with (writes table messages store product (length out)) out

unfoldable pub batch_check : (table batch : List ℕ) → BatchChecked
batch_check table batch = checked_answer (checks table batch)

unfoldable pub batch_last : (table batch : List ℕ) → Key → BatchFound
batch_last table batch k = found_answer (finds_last table batch k)

-- the part of the batch that is handed back; an answer that points beyond the batch gives the empty part
unfoldable pub part_of : (batch : List ℕ) → BatchFound → List ℕ
part_of batch (Ok r) = pick (leb (r.from + r.len) (length batch)) (take r.len (drop r.from batch)) []
part_of batch (NotFound why) = []

-- ---- the answers in numbers

abbrev pub fault_number : Fault → ℕ
fault_number (Wire why p) = refusal_number why
fault_number Fields = 17
fault_number BadBatch = 18
fault_number Missing = 19

abbrev pub fault_place : Fault → ℕ
fault_place (Wire why p) = p
fault_place Fields = 0
fault_place BadBatch = 0
fault_place Missing = 0

unfoldable pub fault_says : Fault → Numbered
fault_says why = record { number = fault_number why; place = fault_place why }

unfoldable pub written_says : BatchWritten → Numbered
written_says (Written p) = done p
written_says (NotWritten why) = fault_says why

unfoldable pub checked_says : BatchChecked → Numbered
checked_says Good = done 0
checked_says (Bad why) = fault_says why

unfoldable pub found_says : BatchFound → Numbered
found_says (Ok r) = done 0
found_says (NotFound why) = fault_says why

-- the part, 0 and 0 on a refusal
unfoldable pub from_of : BatchFound → ℕ
from_of (Ok r) = r.from
from_of (NotFound why) = 0

unfoldable pub len_of : BatchFound → ℕ
len_of (Ok r) = r.len
len_of (NotFound why) = 0
