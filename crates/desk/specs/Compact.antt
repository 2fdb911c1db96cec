-- Compaction (T-13): a new batch of only the last message of each key, in the old order, with rows made afresh.
-- Letters: k a key, m a message, b a batch's parts, t a shape.
-- Assumes nothing.
use Rattle.std.specs.Prelude.{Bool, true, false, List, [], ◌∷◌, ℕ, ◌+◌, length, eqb}
use Rattle.std.proofs.Math.Option.{Option, none, some}
use Rattle.desk.specs.declared.Key.{Key}
use Rattle.desk.specs.declared.Row.{Row}
use Rattle.desk.specs.BatchWritten.{BatchWritten}
use Rattle.wire.specs.Tests.{pick}
use Rattle.desk.specs.Rows.{same_key, last_row}
use Rattle.desk.specs.Messages.{Message}
use Rattle.desk.specs.Batch.{Or, after, tabled, in_room, batch_of, opened, messages_of, written_answer, out_with}

-- ---- what is kept

-- a message of a key is among others
unfoldable pub occurs : Key → List Message → Bool
occurs k [] = false
occurs k (m ∷ ms) = pick (same_key k m.key) true (occurs k ms)

-- the messages whose key does not come again
unfoldable pub keep_last : List Message → List Message
keep_last [] = []
keep_last (m ∷ ms) = pick (occurs m.key ms) (keep_last ms) (m ∷ keep_last ms)

-- the same, decided by rows: a message is kept where the last row of its key says that it begins
unfoldable pub is_last : Option ℕ → (at : ℕ) → Bool
is_last none at = false
is_last (some o) at = eqb o at

unfoldable pub kept_by : List Row → (at : ℕ) → List Message → List Message
kept_by rows at [] = []
kept_by rows at (m ∷ ms) =
    pick (is_last (last_row m.key rows) at) (m ∷ kept_by rows (at + length m.bytes) ms) (kept_by rows (at + length m.bytes) ms)

-- ---- the call: refusals as the check's, then 12

unfoldable pub compacts : (table batch : List ℕ) (room : ℕ) → Or (List ℕ)
compacts table batch room =
    after (tabled table) (λ t. after (opened t batch) (λ b. after (messages_of b) (λ ms. in_room room (batch_of b.keys (keep_last ms)))))

unfoldable pub batch_compact : (table batch out : List ℕ) → BatchWritten
batch_compact table batch out = written_answer (compacts table batch (length out))

unfoldable pub batch_compact_out : (table batch out : List ℕ) → List ℕ
batch_compact_out table batch out = out_with (compacts table batch (length out)) out
