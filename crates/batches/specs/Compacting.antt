-- What is promised of compaction, each stated once.
-- Assumes nothing.
use Rattle.std.specs.Prelude.{◌≡◌, List, ℕ, ◌≤◌, length}
use Rattle.laws.specs.Range.{AreBytes}
use Rattle.desk.specs.BatchChecked.{Good}
use Rattle.desk.specs.declared.Key.{Key}
use Rattle.desk.specs.Rows.{sort}
use Rattle.desk.specs.Messages.{Keyed, Message, rows_of}
use Rattle.desk.specs.Batch.{so, checks, finds_last, batch_check}
use Rattle.desk.specs.Compact.{keep_last, kept_by, compacts}
use Rattle.batches.specs.Reads.{Reads}
use Rattle.batches.specs.Laws.{found_bytes}

-- what a compaction keeps can be decided by the rows of the batch that was checked
abbrev pub RowsKeepLast : Type 0
RowsKeepLast = (k : Keyed) (s : List ℕ) (ms : List Message) → Reads k s ms → kept_by (sort (rows_of 0 ms)) 0 ms ≡ keep_last ms

-- a compaction passes the check
abbrev pub CompactionPasses : Type 0
CompactionPasses = (table batch : List ℕ) (room : ℕ) (new : List ℕ) → AreBytes batch → compacts table batch room ≡ so new → batch_check table new ≡ Good

-- every question is answered with the same bytes, and 19 where it was
abbrev pub CompactionKeeps : Type 0
CompactionKeeps = (table batch : List ℕ) (room : ℕ) (new : List ℕ) (k : Key) → AreBytes batch → compacts table batch room ≡ so new
    → found_bytes new (finds_last table new k) ≡ found_bytes batch (finds_last table batch k)

-- the messages of the new batch are those that are kept of the old one's
pub record KeepsThose (table batch new : List ℕ) : Type 0 where
  pub messages : List Message
  pub before : checks table batch ≡ so messages
  pub after : checks table new ≡ so (keep_last messages)

abbrev pub CompactionHolds : Type 0
CompactionHolds = (table batch : List ℕ) (room : ℕ) (new : List ℕ) → AreBytes batch → compacts table batch room ≡ so new → KeepsThose table batch new

-- doing it again changes nothing, wherever there is room
abbrev pub CompactionOnce : Type 0
CompactionOnce = (table batch : List ℕ) (room room' : ℕ) (new : List ℕ) → AreBytes batch → compacts table batch room ≡ so new → length new ≤ room' → compacts table new room' ≡ so new

-- it is never longer, so an output as long as the batch is never too short
abbrev pub CompactionShorter : Type 0
CompactionShorter = (table batch : List ℕ) (room : ℕ) (new : List ℕ) → compacts table batch room ≡ so new → length new ≤ length batch

pub record Compacts (table batch : List ℕ) (room : ℕ) : Type 0 where
  pub new : List ℕ
  pub made : compacts table batch room ≡ so new

abbrev pub CompactionFits : Type 0
CompactionFits = (table batch : List ℕ) (room : ℕ) → batch_check table batch ≡ Good → length batch ≤ room → Compacts table batch room
