-- How far a reading with room for 16,384 entries has gone, and the next message as an answer.
-- Assumes nothing.
use Rattle.std.specs.Prelude.{◌≡◌, List, ℕ, suc, ◌+◌, ◌-◌, ◌*◌, ◌≤◌, length, take, drop, Result, Ok, Err}
use Rattle.wire.specs.declared.Layout.{Layout}
use Rattle.wire.specs.declared.Reached.{Reached}
use Rattle.wire.specs.declared.Refusal.{Refusal}
use Rattle.wire.specs.declared.RefusedAt.{RefusedAt}
use Rattle.wire.specs.ReadAnswer.{ReadAnswer}
use Rattle.wire.specs.Table.{shapes_at}
use Rattle.wire.specs.Values.{Entry}
use Rattle.wire.specs.Reading.{head, Spot, past, reached, refused, Run, reading, fit}
use Rattle.laws.specs.Tables.{node_shape}
use Rattle.table.specs.Parts.{row_step}
use Rattle.read_item.specs.Steps.{spot}
use Rattle.desk.specs.Path.{most_entries}
use Rattle.desk.specs.Messages.{word_at, Cut, next, stops, next_of}
use Rattle.messages.specs.declared.Begun.{Begun}
use Rattle.messages.specs.declared.Fields.{Fields}
use Rattle.messages.specs.Fields.{keys_of, key_by}
use Rattle.messages.specs.Word.{Word}
use Rattle.messages.specs.Word.{Took, Refused}
use Rattle.messages.specs.NextMessage.{NextMessage}
use Rattle.messages.specs.NextMessage.{Message, Stops}

-- a skim's answer: a refusal's entries are not asked for
unfoldable pub skimmed : ReadAnswer → Result Reached RefusedAt
skimmed (Ok r) = Ok r
skimmed (Err r) = Err (record { why = r.why; place = r.place })

-- behind m entries, a step from x took n bytes, and so many entries are made then
pub record Goes (f : Spot → Run) (m : ℕ) (x : Spot) (n count : ℕ) : Type 0 where
  pub made : List Entry
  pub ran : fit (most_entries - m) (f x) ≡ record { made = made; ends = reached (past n x) }
  pub many : m + length made ≡ count
  pub inside : n ≤ length x.bytes

-- a key field behind so many others
pub data Words (s : List ℕ) (l : Layout) (from before m : ℕ) (x : Spot) : Word → Type 0 where
  took : {word place count n : ℕ} → Goes (row_step (reading head) s l from (before + 1)) m x n count → x.place + n ≡ place
      → ((more : ℕ) → word_at (shapes_at (node_shape s l) s from (before + suc more)) before x ≡ word) → Words s l from before m x (Took word place count)
  not_taken : {why : Refusal} {p : ℕ} → (fit (most_entries - m) (row_step (reading head) s l from (before + 1) x)).ends ≡ refused why p → Words s l from before m x (Refused why p)

unfoldable pub next_answer : Cut → NextMessage
next_answer (next m rest) = Message m.key (length m.bytes)
next_answer (stops why p) = Stops why p

-- a message's key of the words of both key fields, read one behind the other
pub record Begins (s : List ℕ) (l : Layout) (f : Fields) (bs : List ℕ) (b : Begun) : Type 0 where
  pub one : ℕ
  pub other : ℕ
  pub place : ℕ
  pub count : ℕ
  pub first : Words s l f.from f.before 1 (record { bytes = bs; place = 0 }) (Took one place count)
  pub second : Words s l (f.from + 2 * (f.before + 1)) f.between count (spot (take (length bs - place) (drop place bs)) place) (Took other b.place b.count)
  pub its_key : b.key ≡ key_by f.ahead one other

-- the key, or the refusal of the whole message
pub data BeginsOr (s : List ℕ) (l : Layout) (f : Fields) (bs : List ℕ) : Result Begun RefusedAt → Type 0 where
  begins : {b : Begun} → Begins s l f bs b → BeginsOr s l f bs (Ok b)
  refuses : {e : RefusedAt} → Err e ≡ next_answer (next_of (keys_of s l f) bs) → BeginsOr s l f bs (Err e)
