-- What becomes of a frame that was sent and fed to the accumulator.
-- Assumes nothing.
use Rattle.std.specs.Prelude.{◌≡◌, false, List, ◌++◌, ℕ, ◌≤◌, length, take}
use Rattle.wire.specs.WriteAnswer.{Done}
use Rattle.wire.specs.Frames.{room}
use Rattle.wire.specs.Sending.{frame, sends}
use Rattle.laws.specs.Answered.{Writes}
use Rattle.accumulator.specs.Feeding.{Feeder}
use Rattle.streams.specs.Cuts.{joined, Ended}

-- a frame of at most 2,048 bytes, cut anywhere into chunks and fed from idx 0 and not waiting: 20 until its zero, and then 23 with its message
abbrev pub SentAndFed : Feeder → Type 0
SentAndFed by =
    (array : List ℕ) (chunks : List (List ℕ)) (m behind : List ℕ)
    → length (frame m) ≤ room
    → joined chunks ≡ frame m ++ behind
    → Ended by array 0 false chunks m behind

-- the same of whatever `framer::frame` wrote
abbrev pub WroteAndFed : Feeder → Type 0
WroteAndFed by =
    (m out left : List ℕ) (n : ℕ)
    → Writes (sends m (length out)) out (Done n) left
    → (array : List ℕ) (chunks : List (List ℕ)) (behind : List ℕ)
    → n ≤ room
    → joined chunks ≡ take n left ++ behind
    → Ended by array 0 false chunks m behind
