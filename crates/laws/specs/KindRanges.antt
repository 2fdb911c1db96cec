-- The kinds that the code matches by ranges of their numbers.
-- Assumes nothing.
use Rattle.std.specs.Prelude.{Bool, true, false, ℕ, zero, suc, ◌≤◌, ◌<◌, leb}
use Rattle.wire.specs.Tests.{both}
use Rattle.wire.specs.Table.{is_kind, kind_of}
use Rattle.wire.specs.Shape.{w16, w32, w64, Order, signed, unsigned, Plain, fixed, Kind, plain, pooled, option, sequence, map, struct, enum}

-- no children, so no other item, follow an item of it
unfoldable pub is_alone : Kind → Bool
is_alone (plain l) = true
is_alone (pooled c) = true
is_alone option = false
is_alone sequence = false
is_alone map = false
is_alone struct = false
is_alone enum = false

-- the number of an integer's kind that isn't of fixed size
abbrev pub IsInt : ℕ → Type 0
IsInt k = (1 ≤ k) × (k ≤ 8)

-- the number of a kind that has children, as a fact and as a test
abbrev pub IsInner : ℕ → Type 0
IsInner k = (15 ≤ k) × (k ≤ 19)

unfoldable pub is_inner : ℕ → Bool
is_inner k = both (leb 15 k) (leb k 19)

-- the number of a kind that has none, as a fact and as a test
pub record IsLeaf (k : ℕ) : Type 0 where
  pub small : k < 32
  pub outer : IsInner k → ⊥

unfoldable pub is_leaf : ℕ → Bool
is_leaf k = both (is_kind k) (is_alone (kind_of k))

-- the fixed-size integers of one order, as their kinds' numbers go
unfoldable pub sixth : Order → ℕ → Plain
sixth o zero = fixed o signed w16
sixth o (suc zero) = fixed o signed w32
sixth o (suc (suc zero)) = fixed o signed w64
sixth o (suc (suc (suc zero))) = fixed o unsigned w16
sixth o (suc (suc (suc (suc zero)))) = fixed o unsigned w32
sixth o (suc (suc (suc (suc (suc k))))) = fixed o unsigned w64
