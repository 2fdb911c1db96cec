-- The rest that the reader's second call hands back.
-- Assumes nothing.
use Rattle.std.specs.Prelude.{◌≡◌, List, ℕ}
use Rattle.wire.specs.Reading.{Spot, reached}
use Rattle.wire.specs.Answers.{reads, read_answer, rest_of}

-- The rest, which is told by the answer alone, is the bytes that the reading left.
abbrev pub RestIsLeft : Type 0
RestIsLeft = (table message store : List ℕ) (n : ℕ) (x : Spot) → (reads table message store).ends ≡ reached x
    → rest_of message (read_answer (reached x) n) ≡ x.bytes
