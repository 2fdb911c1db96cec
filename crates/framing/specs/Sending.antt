-- What follows of a message's frame: it decodes to the message, a zero ends it and stands nowhere else in it, and how long it is.
-- Assumes nothing.
use Rattle.std.specs.Prelude.{◌≡◌, List, [], ◌∷◌, ◌++◌, ℕ, zero, suc, ◌+◌, ◌*◌, ◌≤◌, ◌<◌, length, get_or}
use Rattle.std.proofs.Math.Option.{none, some}
use Rattle.wire.specs.Answers.{form, no_form}
use Rattle.wire.specs.declared.Refusal.TheVariants.{Full}
use Rattle.wire.specs.Frames.{room, to_zero, decode}
use Rattle.wire.specs.Sending.{group, groups, encode, frame, sends}

-- decoding gives the message, for every length
abbrev pub ComesBack : Type 0
ComesBack = (m : List ℕ) → decode (encode m) ≡ some m

-- a frame has no zero but its last byte
abbrev pub OneZero : Type 0
OneZero = (m : List ℕ) → to_zero (encode m) ≡ none

-- two messages have different frames
abbrev pub OneMessage : Type 0
OneMessage = (m m' : List ℕ) → frame m ≡ frame m' → m ≡ m'

-- the paper's rule, group by group, of bytes that are not zero: the last group, one that a zero ends, and one that is full
pub record ByGroups (s : List ℕ) : Type 0 where
  pub last : length s ≤ 254 → encode s ≡ group s
  pub ended : (m : List ℕ) → length s < 254 → encode (s ++ 0 ∷ m) ≡ group s ++ encode m
  pub full : (b : ℕ) (m : List ℕ) → length s ≡ 254 → encode (s ++ b ∷ m) ≡ group s ++ encode (b ∷ m)

abbrev pub GroupByGroup : Type 0
GroupByGroup = (s : List ℕ) → to_zero s ≡ none → ByGroups s

unfoldable pub zeros : List ℕ → ℕ
zeros [] = 0
zeros (zero ∷ m) = suc (zeros m)
zeros (suc b ∷ m) = zeros m

-- a frame's length: the message's without its zeros, one more for each group, and the closing zero.
-- So it is at least two bytes longer than its message, and beyond that at most one for each 254 bytes.
pub record Sized (m : List ℕ) : Type 0 where
  pub exact : length (frame m) + zeros m ≡ length m + length (groups m) + 1
  pub least : length m + 2 ≤ length (frame m)
  pub most : 254 * length (frame m) ≤ 255 * length m + 508

abbrev pub EachSized : Type 0
EachSized = (m : List ℕ) → Sized m

-- so a message of at most 2,038 bytes has a frame that fits the accumulator
abbrev pub Fits : Type 0
Fits = (m : List ℕ) → length m ≤ 2038 → length (frame m) ≤ room

-- bytes give bytes: every code is one
abbrev pub AreBytes : List ℕ → Type 0
AreBytes s = (i : ℕ) → get_or s i 0 < 256

abbrev pub OfBytes : Type 0
OfBytes = (m : List ℕ) → AreBytes m → AreBytes (frame m)

-- 12 exactly if the frame is longer than the output
pub record Sends (m : List ℕ) (limit : ℕ) : Type 0 where
  pub fits : length (frame m) ≤ limit → sends m limit ≡ form (frame m)
  pub over : limit < length (frame m) → sends m limit ≡ no_form Full 0

abbrev pub SendsExactly : Type 0
SendsExactly = (m : List ℕ) (limit : ℕ) → Sends m limit
