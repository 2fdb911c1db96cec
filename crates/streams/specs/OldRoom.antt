-- T-03: for frames within document 01's room nothing differs, though the array handed over is longer.
-- Assumes nothing.
use Rattle.std.specs.Prelude.{◌≡◌, false, List, ℕ, ◌+◌, ◌≤◌, length, take, drop}
use Rattle.wire.specs.Frames.{room, old_room, rule, old_rule, decode, decode_by, padded, feed_by, feed_bridge, feed}
use Rattle.wire.specs.Frames as frames
use Rattle.wire.specs.declared.FeedAnswer.TheVariants.{OverFull}
use Rattle.accumulator.specs.declared.Accumulator.{Accumulator}
use Rattle.accumulator.specs.declared.Step.{Step}
use Rattle.accumulator.specs.declared.Marked.{Marked}
use Rattle.accumulator.specs.declared.Fed.{Fed}
use Rattle.accumulator.specs.Feeding.{bridge_lent, feed_lent, Feeds, FeedsMarked, FeedsBy, step_of}

-- a frame that fits into the old room with its zero has the message that it had
abbrev pub SameMessage : Type 0
SameMessage = (s : List ℕ) → length s + 1 ≤ old_room → decode s ≡ decode_by old_rule s

-- what the old rule says of a state with the same front
unfoldable pub feed_before : List ℕ → ℕ → List ℕ → frames.Fed
feed_before array idx chunk = feed_by old_rule (take old_room array) idx chunk

-- a state within the old room, and a chunk that the old rule does not answer 21
pub record Within (array : List ℕ) (idx : ℕ) (chunk : List ℕ) : Type 0 where
  pub long : length array ≡ room
  pub good : idx ≤ old_room
  pub calm : (feed_before array idx chunk).answer ≡ OverFull → ⊥

-- the same answer, message, rest and idx; the array's front is as the old rule's, and what is behind it as before
pub record SameAs (array : List ℕ) (old new : frames.Fed) : Type 0 where
  pub answer : new.answer ≡ old.answer
  pub message : new.message ≡ old.message
  pub rest : new.rest ≡ old.rest
  pub idx : new.idx ≡ old.idx
  pub front : take old_room new.array ≡ old.array
  pub behind : drop old_room new.array ≡ drop old_room array

-- of the step table, by which the bridge feeds, and so of the default, with no mark before or after
abbrev pub NothingDiffers : Type 0
NothingDiffers =
    (array : List ℕ) (idx : ℕ) (chunk : List ℕ)
    → Within array idx chunk
    → SameAs array (feed_before array idx chunk) (feed_by rule array idx chunk)

abbrev pub NorByDefault : Type 0
NorByDefault =
    (array : List ℕ) (idx : ℕ) (chunk : List ℕ)
    → Within array idx chunk
    → SameAs array (feed_before array idx chunk) (feed array idx false chunk).fed × ((feed array idx false chunk).waiting ≡ false)

-- the same of a step, and of the array and the message's slice after it
pub record AsBefore (array chunk : List ℕ) (old : frames.Fed) (array' message' : List ℕ) (r : Step) : Type 0 where
  pub answer : r.answer ≡ old.answer
  pub idx : r.idx ≡ old.idx
  pub len : r.len ≡ length old.message
  pub message : message' ≡ padded old.message
  pub rest : drop r.used chunk ≡ old.rest
  pub front : take old_room array' ≡ old.array
  pub behind : drop old_room array' ≡ drop old_room array

-- so whatever `feed_lent` gives, and `feed`, is what the old rule gives
abbrev pub LentAsBefore : Type 0
LentAsBefore =
    (array : List ℕ) (idx : ℕ) (chunk message array' message' : List ℕ) (r : Marked)
    → Within array idx chunk
    → length message ≡ room
    → FeedsMarked (feed_lent array idx false chunk message) chunk array' message' r
    → AsBefore array chunk (feed_before array idx chunk) array' message' r.step × (r.waiting ≡ false)

abbrev pub FeedAsBefore : Type 0
FeedAsBefore =
    (state : Accumulator) (chunk : List ℕ) (r : Fed)
    → Within state.array state.idx chunk
    → state.waiting ≡ false
    → FeedsBy (feed state.array state.idx state.waiting chunk) chunk r
    → AsBefore state.array chunk (feed_before state.array state.idx chunk) r.state.array r.message (step_of r) × (r.state.waiting ≡ false)

-- and so is what the bridge's feeds give, in a state that waits too
abbrev pub BridgeLentAsBefore : Type 0
BridgeLentAsBefore =
    (array : List ℕ) (idx : ℕ) (chunk message array' message' : List ℕ) (r : Step)
    → Within array idx chunk
    → length message ≡ room
    → Feeds (bridge_lent array idx chunk message) chunk array' message' r
    → AsBefore array chunk (feed_before array idx chunk) array' message' r

abbrev pub BridgeAsBefore : Type 0
BridgeAsBefore =
    (state : Accumulator) (chunk : List ℕ) (r : Fed)
    → Within state.array state.idx chunk
    → FeedsBy (feed_bridge state.array state.idx state.waiting chunk) chunk r
    → AsBefore state.array chunk (feed_before state.array state.idx chunk) r.state.array r.message (step_of r)
