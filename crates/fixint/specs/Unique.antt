-- Each call's contract leaves no choice.
-- Assumes nothing.
use Rattle.std.specs.Prelude.{◌≡◌, List, ℕ}
use Rattle.wire.specs.Item.{Item}
use Rattle.wire.specs.Shape.{Width, size, Order, Plain}
use Rattle.wire.specs.Numbers.{little_bytes, in_order}
use Rattle.wire.specs.Reading.{read_plain}
use Rattle.laws.specs.Unique.{Unique}

-- the encoders
abbrev pub OneArray : Type 0
OneArray = (o : Order) (w : Width) (x : ℕ) → Unique (λ (r : List ℕ). r ≡ in_order o (little_bytes (size w) x))

-- the decoders
abbrev pub OneFixedTake : Type 0
OneFixedTake = (l : Plain) (s : List ℕ) → Unique (λ (r : Item). r ≡ read_plain l s)
