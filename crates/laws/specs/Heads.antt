-- What laws ask of a way to read an item's own bytes: they hold of the plain one, and of any that refuses more.
-- Assumes nothing.
use Rattle.std.specs.Prelude.{◌≡◌, true, List, ℕ}
use Rattle.wire.specs.declared.Own.{Own}
use Rattle.wire.specs.Item.{Took}
use Rattle.wire.specs.Shape.{Kind, struct}
use Rattle.wire.specs.Walk.{following, is_known}
use Rattle.wire.specs.Numbers.{took}
use Rattle.wire.specs.Reading.{Head}
use Rattle.laws.specs.Bounds.{Fits}

-- it stays inside its bytes, takes only a variant that is one of the children, and takes nothing for a struct
pub record Sound (h : Head) : Type 0 where
  pub inside : (k : Kind) (n p : ℕ) (s : List ℕ) → Fits s (h k n p s)
  pub knows : (k : Kind) (n p : ℕ) (s : List ℕ) {own : Own} → h k n p s ≡ Took own → is_known (following k own.first) n ≡ true
  pub bare : (n p : ℕ) (s : List ℕ) → h struct n p s ≡ took 0 0 0
