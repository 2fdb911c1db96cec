-- Each call's contract leaves no choice.
-- Assumes nothing.
use Rattle.std.specs.Prelude.{◌≡◌, List, ℕ, length}
use Rattle.wire.specs.Item.{Item}
use Rattle.wire.specs.Shape.{Width}
use Rattle.wire.specs.Numbers.{varint, shortest}
use Rattle.laws.specs.Unique.{Unique}
use Rattle.varint.specs.Takes.{takes}
use Rattle.varint.specs.Put.{Put}

abbrev pub OneVarintTake : Type 0
OneVarintTake = (k top : ℕ) (s : List ℕ) → Unique (λ (r : Item). r ≡ takes k top s)

abbrev pub OneAtWidth : Type 0
OneAtWidth = (w : Width) (s : List ℕ) → Unique (λ (r : Item). r ≡ varint w s)

-- the bytes lent, and the size
abbrev pub OnePut : Type 0
OnePut = (before : List ℕ) (at x : ℕ) → Unique (λ (r : List ℕ × ℕ). Put before at x r.0 r.1)

abbrev pub OneSize : Type 0
OneSize = (x : ℕ) → Unique (λ (r : ℕ). r ≡ length (shortest x))
