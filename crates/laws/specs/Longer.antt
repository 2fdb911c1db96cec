-- A message with other bytes behind it, or behind those that a reading took.
-- Assumes nothing.
use Rattle.std.specs.Prelude.{◌≡◌, List, ◌++◌, ℕ, ◌≤◌, length}
use Rattle.wire.specs.declared.Refusal.{Refusal}
use Rattle.wire.specs.declared.Refusal.TheVariants.{End}
use Rattle.wire.specs.declared.Own.{Own}
use Rattle.wire.specs.Item.{Took}
use Rattle.wire.specs.Shape.{Kind, Shape}
use Rattle.wire.specs.Values.{Entry}
use Rattle.wire.specs.Reading.{head, Spot, Run, reached, refused, past, read}

unfoldable pub longer : List ℕ → Spot → Spot
longer extra x = record { bytes = x.bytes ++ extra; place = x.place }

-- an item that stands in the bytes in front is the same whatever follows them
abbrev pub FrontItem : Type 0
FrontItem = (k : Kind) (n p : ℕ) (s r r' : List ℕ) (own : Own) → head k n p (s ++ r) ≡ Took own → own.used ≤ length s → head k n p (s ++ r') ≡ Took own

-- what was read is read, and the bytes are left
abbrev pub LongerReads : Type 0
LongerReads = (t : Shape) (x z : Spot) (extra : List ℕ) (es : List Entry)
    → read t x ≡ record { made = es; ends = reached z } → read t (longer extra x) ≡ record { made = es; ends = reached (longer extra z) }

-- what was refused is refused, unless the message ended inside an item
abbrev pub LongerRefuses : Type 0
LongerRefuses = (t : Shape) (x : Spot) (extra : List ℕ) (es : List Entry) (e : Refusal) (p : ℕ)
    → read t x ≡ record { made = es; ends = refused e p } → (e ≡ End → ⊥) → read t (longer extra x) ≡ record { made = es; ends = refused e p }

-- bytes at a place
abbrev pub spot : List ℕ → ℕ → Spot
spot s p = record { bytes = s; place = p }

-- a run took so many bytes, and is the same on all that begin with them
pub record Moved (f : Spot → Run) (x : Spot) (es : List Entry) (y : Spot) : Type 0 where
  pub used : ℕ
  pub ends : y ≡ past used x
  pub again : (s r r' : List ℕ) → x.bytes ≡ s ++ r → used ≤ length s
      → f (spot (s ++ r') x.place) ≡ record { made = es; ends = reached (past used (spot (s ++ r') x.place)) }

abbrev pub EarlyReads : Type 0
EarlyReads = (t : Shape) (x : Spot) (es : List Entry) (y : Spot) → read t x ≡ record { made = es; ends = reached y } → Moved (read t) x es y
