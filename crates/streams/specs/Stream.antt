-- What becomes of a stream, feed after feed: where both feeders agree, that no tail of an over-full frame is a message, and that the messages handed out are the stream's.
-- Assumes nothing.
use Rattle.std.specs.Prelude.{◌≡◌, Bool, true, false, List, [], ◌∷◌, ◌++◌, ℕ, zero, suc, ◌+◌, ◌≤◌, length, leb}
use Rattle.std.proofs.Math.Option.{Option, none, some}
use Rattle.wire.specs.Tests.{pick}
use Rattle.wire.specs.declared.FeedAnswer.{FeedAnswer}
use Rattle.wire.specs.declared.FeedAnswer.TheVariants.{Consumed, OverFull, BadFrame, Frame, BadState}
use Rattle.wire.specs.Frames.{Marked, room, to_zero, decode, feed, feed_bridge}
use Rattle.accumulator.specs.Feeding.{Feeder}
use Rattle.streams.specs.Cuts.{joined}

-- ---- feed after feed

-- the chunks to be fed next, a rest that was handed back in front of them
unfoldable pub again : List ℕ → List (List ℕ) → List (List ℕ)
again [] cs = cs
again (b ∷ s) cs = (b ∷ s) ∷ cs

-- a chunk that was fed, and what came of it
pub record Step : Type 0 where
  pub chunk : List ℕ
  pub came : Marked

-- the first n feeds of a sequence of chunks, each to the state that the one before it left, and each rest fed again as the next chunk
unfoldable pub steps : Feeder → ℕ → List ℕ → ℕ → Bool → List (List ℕ) → List Step
steps by zero array idx waiting cs = []
steps by (suc n) array idx waiting [] = []
steps by (suc n) array idx waiting (c ∷ cs) =
    let x = by array idx waiting c in
    record { chunk = c; came = x } ∷ steps by n x.fed.array x.fed.idx x.waiting (again x.fed.rest cs)

-- ---- where both feeders agree

-- no over-full chunk lacks a zero
pub data Calm : List Step → Type 0 where
  calm : Calm []
  still : {x : Step} {xs : List Step} → (x.came.fed.answer ≡ OverFull → to_zero x.chunk ≡ none → ⊥) → Calm xs → Calm (x ∷ xs)

-- from any state that is not waiting, a bad one too
abbrev pub BothAgree : Type 0
BothAgree =
    (n : ℕ) (array : List ℕ) (idx : ℕ) (chunks : List (List ℕ))
    → Calm (steps feed_bridge n array idx false chunks)
    → steps feed n array idx false chunks ≡ steps feed_bridge n array idx false chunks

-- ---- no tail of an over-full frame is a message

-- nothing, or what ends with a zero
pub data Edge : List ℕ → Type 0 where
  start : Edge []
  zeroed : (s : List ℕ) → Edge (s ++ (0 ∷ []))

-- a message of a frame that stands in the stream between two zeros, or between its start and a zero, and fits
pub record Genuine (stream m : List ℕ) : Type 0 where
  pub before : List ℕ
  pub bytes : List ℕ
  pub behind : List ℕ
  pub is : stream ≡ before ++ (bytes ++ (0 ∷ behind))
  pub edge : Edge before
  pub clean : to_zero bytes ≡ none
  pub fits : length bytes + 1 ≤ room
  pub good : decode bytes ≡ some m

-- each message that is handed out is genuine
pub data Safe (stream : List ℕ) : List Step → Type 0 where
  safe : Safe stream []
  also : {x : Step} {xs : List Step} → (x.came.fed.answer ≡ Frame → Genuine stream x.came.fed.message) → Safe stream xs → Safe stream (x ∷ xs)

-- whatever chunks come to a state that is empty and not waiting, whatever its array holds
abbrev pub NeverATail : Type 0
NeverATail = (n : ℕ) (array : List ℕ) (chunks : List (List ℕ)) → Safe (joined chunks) (steps feed n array 0 false chunks)

-- ---- the messages that are handed out are the stream's, however it is cut

unfoldable pub listed : Option (List ℕ) → List (List ℕ)
listed none = []
listed (some m) = m ∷ []

-- the message of the bytes between two zeros, if they fit and decode
unfoldable pub message_of : List ℕ → List (List ℕ)
message_of s = pick (leb (length s + 1) room) (listed (decode s)) []

-- the messages of a stream, of which some bytes came already since the last zero
unfoldable pub messages : (came : List ℕ) → List ℕ → List (List ℕ)
messages came [] = []
messages came (zero ∷ s) = message_of came ++ messages [] s
messages came (suc b ∷ s) = messages (came ++ (suc b ∷ [])) s

-- the messages that feeds hand out
unfoldable pub handed_by : FeedAnswer → List ℕ → List (List ℕ)
handed_by Frame m = m ∷ []
handed_by Consumed m = []
handed_by OverFull m = []
handed_by BadFrame m = []
handed_by BadState m = []

unfoldable pub handed : List Step → List (List ℕ)
handed [] = []
handed (x ∷ xs) = handed_by x.came.fed.answer x.came.fed.message ++ handed xs

-- so many feeds always do, and more change nothing
unfoldable pub enough : List (List ℕ) → ℕ
enough chunks = length chunks + length (joined chunks)

-- to a state that is empty and not waiting: all the messages of the stream, and no other
abbrev pub WholeStream : Type 0
WholeStream =
    (n : ℕ) (array : List ℕ) (chunks : List (List ℕ))
    → enough chunks ≤ n
    → handed (steps feed n array 0 false chunks) ≡ messages [] (joined chunks)

-- to a state that waits: all those behind the first zero
abbrev pub BehindTheZero : Type 0
BehindTheZero =
    (n : ℕ) (array : List ℕ) (idx : ℕ) (chunks : List (List ℕ)) (tail behind : List ℕ)
    → idx ≤ room
    → enough chunks ≤ n
    → to_zero tail ≡ none
    → joined chunks ≡ tail ++ (0 ∷ behind)
    → handed (steps feed n array idx true chunks) ≡ messages [] behind
