-- Going past integers without making anything of them, and taking the key fields on the way. Where that leads nowhere nothing is
-- said: the code then reads again as the reader does.
-- Assumes nothing.
use Rattle.std.specs.Prelude.{◌≡◌, Bool, List, ℕ, ◌+◌, ◌-◌, ◌≤◌, ◌<◌, length, drop, Option, Some, None}
use Rattle.wire.specs.declared.Own.{Own}
use Rattle.wire.specs.Item.{Item}
use Rattle.wire.specs.Item.{Took as Read}
use Rattle.wire.specs.declared.Layout.{Layout}
use Rattle.wire.specs.Shape.{Plain, plain}
use Rattle.wire.specs.Table.{kind_of}
use Rattle.wire.specs.Numbers.{varint_f, varint}
use Rattle.wire.specs.Reading.{head, read_plain, front, past, reading}
use Rattle.table.specs.Parts.{row_step}
use Rattle.desk.specs.Path.{most_entries}
use Rattle.messages.specs.declared.Fields.{Fields}
use Rattle.messages.specs.declared.Taken.{Taken}
use Rattle.messages.specs.declared.Begun.{Begun}
use Rattle.messages.specs.declared.Longest.{Longest}
use Rattle.messages.specs.Fields.{key_width}
use Rattle.messages.specs.Steps.{Goes, Begins}

-- an item was taken, of so many bytes
pub record Uses (i : Item) (n : ℕ) : Type 0 where
  pub own : Own
  pub is : i ≡ Read own
  pub used : own.used ≡ n

-- an item of a kind is as long as a varint
pub record IsVarint (number : ℕ) (v : Longest) : Type 0 where
  pub some : 1 ≤ v.most
  pub leaf : Plain
  pub kind : kind_of number ≡ plain leaf
  pub fits : (s : List ℕ) {n : ℕ} → Uses (varint_f v.most v.last s) n → Uses (read_plain leaf s) n

-- how long; of other kinds nothing is said
pub data LongestOf (number : ℕ) : Option Longest → Type 0 where
  is : {v : Longest} → IsVarint number v → LongestOf number (Some v)
  other : LongestOf number None

-- the place behind a varint
pub data PastVarint (v : Longest) (s : List ℕ) (at : ℕ) : Option ℕ → Type 0 where
  passed : {n r : ℕ} → Uses (varint_f v.most v.last (drop at s)) n → at + n ≡ r → r ≤ length s → PastVarint v s at (Some r)
  nowhere : PastVarint v s at None

-- the place behind a row of items, each of which makes one entry
pub record PastRow (s : List ℕ) (l : Layout) (from width : ℕ) (bs : List ℕ) (at r m : ℕ) : Type 0 where
  pub onward : at ≤ r
  pub goes : Goes (row_step (reading head) s l from width) m (past at (front bs)) (r - at) (m + width)

pub data PastInts (s : List ℕ) (l : Layout) (from width : ℕ) (bs : List ℕ) (at : ℕ) : Option ℕ → Type 0 where
  gone : {r : ℕ} → r ≤ length bs → ((m : ℕ) → m + width ≤ most_entries → PastRow s l from width bs at r m) → PastInts s l from width bs at (Some r)
  stays : PastInts s l from width bs at None

-- a key field's word, and the place behind it
pub record Reads (narrow : Bool) (s : List ℕ) (at : ℕ) (t : Taken) : Type 0 where
  pub own : Own
  pub taken : varint (key_width narrow) (drop at s) ≡ Read own
  pub word : own.first ≡ t.word
  pub behind : at + own.used ≡ t.behind
  pub inside : t.behind ≤ length s

pub data PastKey (narrow : Bool) (s : List ℕ) (at : ℕ) : Option Taken → Type 0 where
  reads : {t : Taken} → Reads narrow s at t → PastKey narrow s at (Some t)
  none : PastKey narrow s at None

-- both key fields, one behind the other
pub data PastKeys (s : List ℕ) (l : Layout) (f : Fields) (bs : List ℕ) : Option Begun → Type 0 where
  keyed : {b : Begun} → b.place ≤ length bs → b.count ≡ f.before + f.between + 3 → (f.before + f.between + 2 < most_entries → Begins s l f bs b) → PastKeys s l f bs (Some b)
  unkeyed : PastKeys s l f bs None
