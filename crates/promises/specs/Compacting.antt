-- T-13: what is promised of compaction, of its answer and its output, and of the check's and the search's answers before and after.
-- Assumes nothing.
use Rattle.std.specs.Prelude.{◌≡◌, List, ℕ, ◌≤◌, length, take, drop}
use Rattle.wire.specs.declared.Refusal.TheVariants.{Full}
use Rattle.laws.specs.Range.{AreBytes}
use Rattle.desk.specs.declared.Fault.{Fault}
use Rattle.desk.specs.declared.Fault.TheVariants.{Wire, Missing}
use Rattle.desk.specs.BatchWritten.{Done as Written, Refused as NotWritten}
use Rattle.desk.specs.BatchChecked.{Good, Bad}
use Rattle.desk.specs.BatchFound.{BatchFound}
use Rattle.desk.specs.BatchFound.{Part as Found, Refused as NotFound}
use Rattle.desk.specs.declared.Key.{Key}
use Rattle.desk.specs.Messages.{Message}
use Rattle.desk.specs.Batch.{batch_check, part_of}
use Rattle.desk.specs.Compact.{occurs, keep_last, batch_compact, batch_compact_out}
use Rattle.batches.specs.Good.{IsGood}
use Rattle.batches.specs.Search.{Searched}

-- a compaction that is done: the bytes that it wrote
pub record Compacted (table batch new : List ℕ) : Type 0 where
  pub out : List ℕ
  pub bytes : AreBytes batch
  pub done : batch_compact table batch out ≡ Written (length new)
  pub is : take (length new) (batch_compact_out table batch out) ≡ new

-- ---- what it writes

-- It passes the whole check.
abbrev pub CompactedPasses : Type 0
CompactedPasses = (table batch new : List ℕ) → Compacted table batch new → batch_check table new ≡ Good

-- Its messages are the old batch's that are the last of their keys, in the old order, and no others.
abbrev pub CompactedKeeps : Type 0
CompactedKeeps = (table batch new : List ℕ) → Compacted table batch new → (before : IsGood table batch) (after : IsGood table new) → after.messages ≡ keep_last before.messages

-- Every key that had a message has one, and no other has.
abbrev pub KeysStay : Type 0
KeysStay = (k : Key) (ms : List Message) → occurs k (keep_last ms) ≡ occurs k ms

-- It is never longer.
abbrev pub CompactedShorter : Type 0
CompactedShorter = (table batch new : List ℕ) → Compacted table batch new → length new ≤ length batch

-- Doing it again changes nothing, byte for byte, in any output with room for it.
pub record Again (table new out : List ℕ) : Type 0 where
  pub done : batch_compact table new out ≡ Written (length new)
  pub same : take (length new) (batch_compact_out table new out) ≡ new

abbrev pub CompactedOnce : Type 0
CompactedOnce = (table batch new out : List ℕ) → Compacted table batch new → length new ≤ length out → Again table new out

-- ---- the questions

-- two answers of the search with the same bytes, or 19 both times
pub data SameBytes (batch new : List ℕ) : BatchFound → BatchFound → Type 0 where
  found : {from len from' len' : ℕ} → part_of new (Found from' len') ≡ part_of batch (Found from len) → SameBytes batch new (Found from len) (Found from' len')
  missing : SameBytes batch new (NotFound Missing) (NotFound Missing)

-- Every last-message question is answered with the same bytes before and after, pairs not present included.
abbrev pub CompactedAnswers : Type 0
CompactedAnswers = (table batch new : List ℕ) (k : Key) (before after : BatchFound) → Compacted table batch new → Searched table batch k before → Searched table new k after
    → SameBytes batch new before after

-- ---- refusals

-- They are the check's,
abbrev pub CompactRefuses : Type 0
CompactRefuses = (table batch out : List ℕ) (why : Fault) → batch_check table batch ≡ Bad why → batch_compact table batch out ≡ NotWritten why

-- and then 12,
abbrev pub CompactFull : Type 0
CompactFull = (table batch out : List ℕ) (why : Fault) → batch_check table batch ≡ Good → batch_compact table batch out ≡ NotWritten why → why ≡ Wire Full 0

-- which an output as long as the batch never gets.
pub record Made (table batch out : List ℕ) : Type 0 where
  pub size : ℕ
  pub done : batch_compact table batch out ≡ Written size

abbrev pub CompactFits : Type 0
CompactFits = (table batch out : List ℕ) → batch_check table batch ≡ Good → length batch ≤ length out → Made table batch out

-- ---- the output

-- A refusal changes nothing.
abbrev pub RefusalKeeps : Type 0
RefusalKeeps = (table batch out : List ℕ) (why : Fault) → batch_compact table batch out ≡ NotWritten why → batch_compact_out table batch out ≡ out

-- Behind what was written the output is as before.
pub record Behind (out left : List ℕ) (n : ℕ) : Type 0 where
  pub room : n ≤ length out
  pub behind : drop n left ≡ drop n out

abbrev pub CompactBehind : Type 0
CompactBehind = (table batch out : List ℕ) (n : ℕ) → batch_compact table batch out ≡ Written n → Behind out (batch_compact_out table batch out) n
