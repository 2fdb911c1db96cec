-- Where an item and a run may end.
-- Assumes nothing.
use Rattle.std.specs.Prelude.{◌≡◌, List, [], ◌∷◌, ℕ, ◌+◌, ◌≤◌, length}
use Rattle.wire.specs.declared.Refusal.{Refusal}
use Rattle.wire.specs.declared.Own.{Own}
use Rattle.wire.specs.Item.{Item}
use Rattle.wire.specs.Item.{Took, Refused}
use Rattle.wire.specs.Shape.{Shape}
use Rattle.wire.specs.Walk.{walk}
use Rattle.wire.specs.Values.{Entry}
use Rattle.wire.specs.Reading.{Head, Spot, Outcome, reached, refused, past, reading}

-- the place where entries begin, or else the place behind all of them
unfoldable pub start : List Entry → (end : ℕ) → ℕ
start [] end = end
start (e ∷ es) end = e.place

-- an item takes no more bytes than there are
pub data Fits (s : List ℕ) : Item → Type 0 where
  takes : {own : Own} → own.used ≤ length s → Fits s (Took own)
  refuses : {e : Refusal} → Fits s (Refused e)

-- a run from x reaches a spot that is so many of x's bytes behind it, or refuses an item there; its first entry stands at x
pub data Stays (x : Spot) (es : List Entry) : Outcome → Type 0 where
  reaches : {z : Spot} (n : ℕ) → n ≤ length x.bytes → z ≡ past n x → start es z.place ≡ x.place → Stays x es (reached z)
  refuses : {e : Refusal} {p : ℕ} → x.place ≤ p → p ≤ x.place + length x.bytes → start es p ≡ x.place → Stays x es (refused e p)

abbrev pub ReadsInside : Head → Type 0
ReadsInside h = (t : Shape) (x : Spot) → Stays x (walk (reading h) t x).made (walk (reading h) t x).ends

-- the place and the number of bytes from there on add up to the same at every spot
abbrev pub PlacesKept : Head → Type 0
PlacesKept h = (t : Shape) (x z : Spot) → (walk (reading h) t x).ends ≡ reached z → z.place + length z.bytes ≡ x.place + length x.bytes
