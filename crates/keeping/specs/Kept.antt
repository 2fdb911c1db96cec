-- What a survey of a good batch tells, and what its compaction is laid out as.
-- Assumes nothing.
use Rattle.std.specs.Prelude.{◌≡◌, List, [], ◌++◌, ℕ, ◌+◌, ◌*◌, length}
use Rattle.std.proofs.lemmas.List.Edits.{sets}
use Rattle.wire.specs.declared.Layout.{Layout}
use Rattle.desk.specs.Rows.{rows_bytes}
use Rattle.desk.specs.Messages.{Keyed, Message, joined, rows_of}
use Rattle.desk.specs.Batch.{Or, so, fault, batch_of, Parts, messages_of}
use Rattle.desk.specs.Compact.{keep_last}
use Rattle.messages.specs.declared.Fields.{Fields}
use Rattle.starts.specs.Window.{parts_in}
use Rattle.keeping.specs.declared.Surveyed.{Surveyed}

-- a good batch
pub record Good (b : Parts) : Type 0 where
  pub them : List Message
  pub is : messages_of b ≡ so them

-- how many of its messages are kept, and of how many bytes
unfoldable pub survey_of : Or (List Message) → Surveyed
survey_of (so ms) = record { count = length (keep_last ms); len = length (joined (keep_last ms)) }
survey_of (fault why) = record { count = 0; len = 0 }

-- a good batch, and memory for the batch of what is kept, whose rows start at `len`
pub record Keeps (table : List ℕ) (l : Layout) (f : Fields) (front rows : List ℕ) (len : ℕ) (out : List ℕ) : Type 0 where
  pub them : List Message
  pub is : messages_of (parts_in table l f front rows) ≡ so them
  pub size : length (joined (keep_last them)) ≡ len
  pub room : length out ≡ len + (16 * length (keep_last them) + 12)

-- the messages that are kept, and a row for each, in front
unfoldable pub kept_for : Or (List Message) → (out : List ℕ) → List ℕ
kept_for (so ms) out = sets out 0 (joined (keep_last ms) ++ rows_bytes (rows_of 0 (keep_last ms)))
kept_for (fault why) out = out

-- the batch of what is kept
unfoldable pub batch_kept : Keyed → Or (List Message) → List ℕ
batch_kept k (so ms) = batch_of k (keep_last ms)
batch_kept k (fault why) = []
