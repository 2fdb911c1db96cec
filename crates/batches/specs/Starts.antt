-- Where the messages of some bytes start, one after the other from the front, and a row at its message.
-- Assumes nothing.
use Rattle.std.specs.Prelude.{◌≡◌, List, ℕ, suc, ◌+◌, length, drop}
use Rattle.desk.specs.declared.Row.{Row}
use Rattle.desk.specs.Messages.{Keyed, Message, next, next_of}

-- so many messages stand in front of a place, and it is where the next one would start
pub data Starts (k : Keyed) (s : List ℕ) : ℕ → ℕ → Type 0 where
  in-front : Starts k s 0 0
  behind : {n at : ℕ} {m : Message} {rest : List ℕ} → Starts k s n at → next_of k (drop at s) ≡ next m rest → Starts k s (suc n) (at + length m.bytes)

-- a message starts at the row's offset, and has its key
pub record RowOf (k : Keyed) (s : List ℕ) (r : Row) : Type 0 where
  pub n : ℕ
  pub starts : Starts k s n r.offset
  pub m : Message
  pub rest : List ℕ
  pub is : next_of k (drop r.offset s) ≡ next m rest
  pub key : m.key ≡ r.key
