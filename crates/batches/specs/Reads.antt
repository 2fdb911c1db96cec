-- Messages that stand end to end, as a relation.
-- Assumes nothing.
use Rattle.std.specs.Prelude.{◌≡◌, List, [], ◌∷◌, ℕ, ◌<◌, length}
use Rattle.desk.specs.Messages.{Keyed, Message, next, next_of, whole, split}

-- some bytes are these messages, none of them empty
pub data Reads (k : Keyed) : List ℕ → List Message → Type 0 where
  ended : Reads k [] []
  also : {s rest : List ℕ} {m : Message} {ms : List Message} → next_of k s ≡ next m rest → 0 < length m.bytes → Reads k rest ms → Reads k s (m ∷ ms)

-- it is what `split` finds
abbrev pub SplitReads : Type 0
SplitReads = (k : Keyed) (s : List ℕ) (ms : List Message) → (split k s ≡ whole ms → Reads k s ms) × (Reads k s ms → split k s ≡ whole ms)
