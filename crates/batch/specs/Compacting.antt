-- What a compaction makes of a batch that has been taken apart.
-- Assumes nothing.
use Rattle.std.specs.Prelude.{List, ℕ}
use Rattle.desk.specs.Batch.{Or, after, in_room, batch_of, Parts, messages_of}
use Rattle.desk.specs.Compact.{keep_last}

-- what comes after the parts
unfoldable pub compacted_by : Parts → (room : ℕ) → Or (List ℕ)
compacted_by b room = after (messages_of b) (λ ms. in_room room (batch_of b.keys (keep_last ms)))
