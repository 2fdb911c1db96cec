-- What the public calls answer and leave in lent memory, and that nothing else would do.
-- Assumes nothing.
use Rattle.std.specs.Prelude.{◌≡◌, Bool, List, ℕ, ◌≤◌, length, drop, eqb}
use Rattle.wire.specs.Tests.{pick, both}
use Rattle.wire.specs.Frames.{room, no_message, padded, feed_by, rule, feed}
use Rattle.wire.specs.Frames as frames
use Rattle.wire.specs.declared.FeedAnswer.{FeedAnswer}
use Rattle.wire.specs.declared.FeedAnswer.TheVariants.{BadState}
use Rattle.accumulator.specs.declared.Step.{Step}
use Rattle.accumulator.specs.declared.Marked.{Marked}
use Rattle.accumulator.specs.declared.Fed.{Fed}

-- ---- definitions

-- a feeder takes a state, its array, idx and mark, and a chunk
abbrev pub Feeder : Type 0
Feeder = List ℕ → ℕ → Bool → List ℕ → frames.Marked

-- what a feed in lent memory is, and what the message's slice holds then
pub record Lent : Type 0 where
  pub fed : frames.Fed
  pub message : List ℕ

-- the slice is written whole: the message, and zeros behind it
abbrev pub written : frames.Fed → Lent
written f = record { fed = f; message = padded f.message }

-- whether both slices have the room's length
unfoldable pub fitting : (array message : List ℕ) → Bool
fitting array message = both (eqb (length array) room) (eqb (length message) room)

-- where they haven't, the state is bad, and nothing changes
abbrev pub unfit : (array : List ℕ) (idx : ℕ) (chunk message : List ℕ) → Lent
unfit array idx chunk message = record { fed = no_message BadState chunk array idx; message = message }

-- the bridge's feed, which has nothing to do with a mark
unfoldable pub bridge_lent : (array : List ℕ) (idx : ℕ) (chunk message : List ℕ) → Lent
bridge_lent array idx chunk message =
    pick (fitting array message) (written (feed_by rule array idx chunk)) (unfit array idx chunk message)

-- a feed in lent memory, and the mark that it leaves
pub record MarkedLent : Type 0 where
  pub lent : Lent
  pub waiting : Bool

abbrev pub marked : frames.Marked → MarkedLent
marked m = record { lent = written m.fed; waiting = m.waiting }

-- the default
unfoldable pub feed_lent : (array : List ℕ) (idx : ℕ) (waiting : Bool) (chunk message : List ℕ) → MarkedLent
feed_lent array idx waiting chunk message =
    pick (fitting array message)
    (marked (feed array idx waiting chunk))
    (record { lent = unfit array idx chunk message; waiting = waiting })

-- an answer that comes with no message
abbrev pub without : FeedAnswer → ℕ → ℕ → Step
without a idx used = record { answer = a; idx = idx; len = 0; used = used }

-- ---- contracts

-- a step, and the array and the message's slice after it, are those of the definition
pub record Feeds (f : Lent) (chunk array' message' : List ℕ) (r : Step) : Type 0 where
  pub answer : r.answer ≡ f.fed.answer
  pub idx : r.idx ≡ f.fed.idx
  pub len : r.len ≡ length f.fed.message
  pub within : r.used ≤ length chunk
  pub rest : drop r.used chunk ≡ f.fed.rest
  pub array : array' ≡ f.fed.array
  pub message : message' ≡ f.message

-- and so is the mark
pub record FeedsMarked (f : MarkedLent) (chunk array' message' : List ℕ) (r : Marked) : Type 0 where
  pub step : Feeds f.lent chunk array' message' r.step
  pub waiting : r.waiting ≡ f.waiting

-- the step of a feed by value, and its mark
abbrev pub step_of : Fed → Step
step_of r = record { answer = r.answer; idx = r.state.idx; len = r.len; used = r.used }

abbrev pub marked_of : Fed → Marked
marked_of r = record { step = step_of r; waiting = r.state.waiting }

-- the same, of a state by value
abbrev pub FeedsBy : frames.Marked → List ℕ → Fed → Type 0
FeedsBy m chunk r = FeedsMarked (marked m) chunk r.state.array r.message (marked_of r)

-- ---- two answers that meet a contract are equal, lent memory included

abbrev pub OneStep : Type 0
OneStep =
    (f : Lent) (chunk array' array'' message' message'' : List ℕ) (r s : Step)
    → Feeds f chunk array' message' r
    → Feeds f chunk array'' message'' s
    → (r ≡ s) × (array' ≡ array'') × (message' ≡ message'')

abbrev pub OneMarked : Type 0
OneMarked =
    (f : MarkedLent) (chunk array' array'' message' message'' : List ℕ) (r s : Marked)
    → FeedsMarked f chunk array' message' r
    → FeedsMarked f chunk array'' message'' s
    → (r ≡ s) × (array' ≡ array'') × (message' ≡ message'')

abbrev pub OneFed : Type 0
OneFed = (m : frames.Marked) (chunk : List ℕ) (r s : Fed) → FeedsBy m chunk r → FeedsBy m chunk s → r ≡ s
