-- A window of marked starts, and what is said by it of the rows of a batch.
-- Assumes nothing.
use Rattle.std.specs.Prelude.{◌≡◌, Bool, true, false, List, ℕ, ◌+◌, ◌-◌, ◌≤◌, ◌<◌, length, drop, get_or}
use Rattle.wire.specs.declared.Layout.{Layout}
use Rattle.wire.specs.declared.Refusal.{Refusal}
use Rattle.desk.specs.declared.Row.{Row}
use Rattle.desk.specs.declared.Fault.TheVariants.{Batch as BadBatch}
use Rattle.desk.specs.Messages.{Keyed, Message, next, stops, next_of}
use Rattle.desk.specs.Batch.{so, fault, Parts, messages_of}
use Rattle.batches.specs.Search.{no_row}
use Rattle.batches.specs.Starts.{Starts, RowOf}
use Rattle.bits.specs.Marks.{marked}
use Rattle.row.specs.Ranks.{rows_in}
use Rattle.messages.specs.declared.Fields.{Fields}
use Rattle.messages.specs.Fields.{keys_of}
use Rattle.starts.specs.Marked.{Marked}
use Rattle.starts.specs.Marked.{Upto, Stopped}

-- a message starts there
pub record Start (k : Keyed) (s : List ℕ) (o : ℕ) : Type 0 where
  pub n : ℕ
  pub starts : Starts k s n o
  pub m : Message
  pub rest : List ℕ
  pub is : next_of k (drop o s) ≡ next m rest

-- the marks are the starts of the messages from a place up to another, and no others
pub record Window (k : Keyed) (s : List ℕ) (base at : ℕ) (area : List ℕ) : Type 0 where
  pub from : base ≤ at
  pub inside : at ≤ length s
  pub only : (j : ℕ) → marked area j ≡ true → Start k s (base + j)
  pub all : (n o : ℕ) → Starts k s n o → base ≤ o → o < at → marked area (o - base) ≡ true

-- starts marked from a place on, beyond it; or bytes that are not read to their end
pub data Marks (k : Keyed) (s : List ℕ) (base : ℕ) (area : List ℕ) : Marked → Type 0 where
  marks : {at count : ℕ} → Starts k s count at → base < at → Window k s base at area → Marks k s base area (Upto at count)
  unread : {n o p : ℕ} {why : Refusal} → Starts k s n o → o < length s → next_of k (drop o s) ≡ stops why p → Marks k s base area Stopped

-- a row that leads into the bytes, and stands at its message if it leads into the window
pub record Placed (k : Keyed) (s : List ℕ) (base at : ℕ) (r : Row) : Type 0 where
  pub before : r.offset < length s
  pub there : base ≤ r.offset → r.offset < at → RowOf k s r

pub data Stands (k : Keyed) (s : List ℕ) (base at : ℕ) (r : Row) : Bool → Type 0 where
  placed : Placed k s base at r → Stands k s base at r true
  wrong : (RowOf k s r → ⊥) → Stands k s base at r false

pub data AllStand (k : Keyed) (s : List ℕ) (base at : ℕ) (rows : List Row) : Bool → Type 0 where
  all_placed : ((j : ℕ) → j < length rows → Placed k s base at (get_or rows j no_row)) → AllStand k s base at rows true
  one-wrong : (j : ℕ) → j < length rows → (RowOf k s (get_or rows j no_row) → ⊥) → AllStand k s base at rows false

-- a batch's parts: the bytes in front of the rows, and the rows' own
abbrev pub parts_in : (table : List ℕ) → Layout → Fields → (front rows : List ℕ) → Parts
parts_in table l f front rows = record { keys = keys_of table l f; front = front; rows = rows_in rows }

-- the messages that a batch is, or it is bad
pub data Judges (b : Parts) : Bool → Type 0 where
  good : {ms : List Message} → messages_of b ≡ so ms → Judges b true
  bad : messages_of b ≡ fault BadBatch → Judges b false
