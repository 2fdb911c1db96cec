-- Reading a varint by any two constants, of which a width's are one choice.
-- Assumes nothing.
use Rattle.std.specs.Prelude.{◌≡◌, List, Bool, true, ℕ, ◌-◌, get_or, ltb, leb, eqb}
use Rattle.wire.specs.declared.Refusal.TheVariants.{BadVarint}
use Rattle.wire.specs.declared.Own.{Own}
use Rattle.wire.specs.Item.{Item}
use Rattle.wire.specs.Item.{Took, Refused}
use Rattle.wire.specs.Tests.{pick, both}
use Rattle.wire.specs.Shape.{Width}
use Rattle.wire.specs.Numbers.{most, last, varint_f, varint}

-- what the last of k bytes must be below for every value to fit a word
unfoldable pub limit_of : ℕ → ℕ
limit_of k = pick (both (leb 1 k) (leb k 9)) 128 (pick (eqb k 10) 2 0)

-- other constants refuse every message
unfoldable pub takes : ℕ → ℕ → List ℕ → Item
takes k top s = pick (ltb top (limit_of k)) (varint_f k top s) (Refused BadVarint)

-- a varint of so many bytes, of which b is the last, is the shortest of its number: it is one byte, or b is not 0
unfoldable pub ends_short : (used b : ℕ) → Bool
ends_short used b = pick (eqb used 1) true (ltb 0 b)

abbrev pub spelled_by : (first used b : ℕ) → Own
spelled_by first used b = record { first = first; second = 0; used = used; shortest = ends_short used b }

-- and so it is said of what is taken
abbrev pub ShortestByLast : Type 0
ShortestByLast = (k top : ℕ) (s : List ℕ) (own : Own) → takes k top s ≡ Took own → own.shortest ≡ ends_short own.used (get_or s (own.used - 1) 0)

-- a width's constants take the width's varints
abbrev pub AtWidth : Type 0
AtWidth = (w : Width) (s : List ℕ) → takes (most w) (last w) s ≡ varint w s
