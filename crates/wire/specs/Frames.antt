-- The accumulator: frames of groups, each behind its code, cut anywhere into chunks.
-- Assumes nothing.
use Rattle.std.specs.Prelude.{Bool, true, false, List, [], ◌∷◌, ◌++◌, ℕ, zero, suc, ◌+◌, ◌-◌, length, take, drop, replicate, leb, ltb, eqb}
use Rattle.std.proofs.Math.Option.{Option, none, some, map}
use Rattle.wire.specs.declared.FeedAnswer.{FeedAnswer}
use Rattle.wire.specs.declared.FeedAnswer.TheVariants.{Consumed, OverFull, BadFrame, Frame, BadState}
use Rattle.wire.specs.Tests.{pick}

-- ---- the rule

-- how many bytes a frame may have, and how many zeros of the message stand behind a group of a code, where another group follows
pub record Rule : Type 0 where
  pub room : ℕ
  pub gap_after : ℕ → ℕ

unfoldable pub room : ℕ
room = 2048

-- a group with code FF is never followed by a zero
unfoldable pub gap_after : ℕ → ℕ
gap_after code = pick (eqb code 0xff) 0 1

abbrev pub rule : Rule
rule = record { room = room; gap_after = gap_after }

-- document 01's rule, which stood before T-03
unfoldable pub old_room : ℕ
old_room = 256

unfoldable pub old_gap_after : ℕ → ℕ
old_gap_after code = 1

abbrev pub old_rule : Rule
old_rule = record { room = old_room; gap_after = old_gap_after }

-- ---- a frame, by either rule

module _ (r : Rule) where
  -- so many bytes are left of a group, and other groups may follow; `gap` zeros of the message stand in front of the next
  unfoldable pub groups_by : ℕ → ℕ → List ℕ → Option (List ℕ)
  groups_by gap zero [] = some []
  groups_by gap (suc left) [] = none
  groups_by gap left (zero ∷ s) = none
  groups_by gap zero (suc left ∷ s) = map (λ (m : List ℕ). replicate gap 0 ++ m) (groups_by (r.gap_after (suc left)) left s)
  groups_by gap (suc left) (suc b ∷ s) = map (λ (m : List ℕ). suc b ∷ m) (groups_by gap left s)

  -- the message of a frame, which is given without its closing zero
  unfoldable pub decode_by : List ℕ → Option (List ℕ)
  decode_by s = groups_by 0 0 s

abbrev pub decode : List ℕ → Option (List ℕ)
decode s = decode_by rule s

-- ---- what a feed answers

-- how many bytes stand in front of the first zero, if there is one
unfoldable pub to_zero : List ℕ → Option ℕ
to_zero [] = none
to_zero (zero ∷ s) = some 0
to_zero (suc b ∷ s) = map (λ (n : ℕ). n + 1) (to_zero s)

-- what a feed answers, with the message of a frame, the rest of the chunk, and the state: its array and how much of that is filled
pub record Fed : Type 0 where
  pub answer : FeedAnswer
  pub message : List ℕ
  pub rest : List ℕ
  pub array : List ℕ
  pub idx : ℕ

-- an answer that comes with no message
unfoldable pub no_message : FeedAnswer → List ℕ → List ℕ → ℕ → Fed
no_message a rest array idx = record { answer = a; message = []; rest = rest; array = array; idx = idx }

-- the end of a frame, whose message was decoded or not
unfoldable pub framed : Option (List ℕ) → List ℕ → List ℕ → Fed
framed (some m) rest array = record { answer = Frame; message = m; rest = rest; array = array; idx = 0 }
framed none rest array = no_message BadFrame rest array 0

-- ---- a chunk, by either rule

module _ (r : Rule) where
  -- a chunk with no zero in it
  unfoldable pub feed_on : List ℕ → ℕ → List ℕ → Fed
  feed_on array idx chunk =
      pick (leb (idx + length chunk) r.room)
      (no_message Consumed [] (take idx array ++ (chunk ++ drop (idx + length chunk) array)) (idx + length chunk))
      (no_message OverFull (drop (r.room - idx) chunk) array 0)

  -- a chunk whose first zero is at n
  unfoldable pub feed_end : List ℕ → ℕ → List ℕ → ℕ → Fed
  feed_end array idx chunk n =
      pick (leb (idx + (n + 1)) r.room)
      (framed (decode_by r (take idx array ++ take n chunk)) (drop (n + 1) chunk) array)
      (no_message OverFull (drop (n + 1) chunk) array 0)

  unfoldable pub feed_fit : List ℕ → ℕ → List ℕ → Option ℕ → Fed
  feed_fit array idx chunk none = feed_on array idx chunk
  feed_fit array idx chunk (some n) = feed_end array idx chunk n

  -- document 01's step table
  unfoldable pub feed_by : List ℕ → ℕ → List ℕ → Fed
  feed_by array idx chunk =
      pick (leb idx r.room) (feed_fit array idx chunk (to_zero chunk)) (no_message BadState chunk array idx)

-- the array that comes with an answer: the message with zeros behind it
unfoldable pub padded : List ℕ → List ℕ
padded m = m ++ replicate (room - length m) 0

-- ---- the waiting mark

-- a feed, and whether the state that it leaves waits for the end of an over-full frame
pub record Marked : Type 0 where
  pub fed : Fed
  pub waiting : Bool

-- the bridge's way: document 01's step table, and the mark passed through unread
unfoldable pub feed_bridge : List ℕ → ℕ → Bool → List ℕ → Marked
feed_bridge array idx waiting chunk = record { fed = feed_by rule array idx chunk; waiting = waiting }

-- a chunk that lacks a zero and does not fit
unfoldable pub spills : ℕ → List ℕ → Option ℕ → Bool
spills idx chunk none = ltb room (idx + length chunk)
spills idx chunk (some n) = false

-- not waiting: of such a chunk nothing is left, and the end of its frame is waited for; for any other the step table stands
unfoldable pub feed_fresh : List ℕ → ℕ → List ℕ → Marked
feed_fresh array idx chunk =
    pick (spills idx chunk (to_zero chunk))
    (record { fed = no_message OverFull [] array 0; waiting = true })
    (record { fed = feed_by rule array idx chunk; waiting = false })

-- waiting: all up to the first zero is dropped, and what follows it is a chunk of its own, from idx 0
unfoldable pub feed_waiting : List ℕ → List ℕ → Option ℕ → Marked
feed_waiting array chunk none = record { fed = no_message Consumed [] array 0; waiting = true }
feed_waiting array chunk (some n) = feed_fresh array 0 (drop (n + 1) chunk)

unfoldable pub feed_marked : List ℕ → ℕ → Bool → List ℕ → Marked
feed_marked array idx false chunk = feed_fresh array idx chunk
feed_marked array idx true chunk = feed_waiting array chunk (to_zero chunk)

-- the default; a bad state comes before all else, and nothing of it changes
unfoldable pub feed : List ℕ → ℕ → Bool → List ℕ → Marked
feed array idx waiting chunk =
    pick (leb idx room)
    (feed_marked array idx waiting chunk)
    (record { fed = no_message BadState chunk array idx; waiting = waiting })
