-- Bits in bytes, the lowest of a byte first.
-- Assumes nothing.
use Rattle.std.specs.Prelude.{Bool, List, ℕ, ◌+◌, ◌/◌, ◌%◌, ◌^◌, eqb, get_or, set}
use Rattle.wire.specs.Tests.{pick}

-- bit k of the area is set
unfoldable pub marked : List ℕ → ℕ → Bool
marked a k = eqb (get_or a (k / 8) 0 / 2 ^ (k % 8) % 2) 1

-- the area with bit k set
unfoldable pub marking : List ℕ → ℕ → List ℕ
marking a k = pick (marked a k) a (set a (k / 8) (get_or a (k / 8) 0 + 2 ^ (k % 8)))
