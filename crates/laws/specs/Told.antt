-- How entries are told apart by a shape, and those of a reading by the shape that it read.
-- Assumes nothing.
use Rattle.std.specs.Prelude.{◌≡◌, List, ◌∷◌, ◌++◌, map, ℕ}
use Rattle.wire.specs.declared.Refusal.{Refusal}
use Rattle.wire.specs.Shape.{Shape}
use Rattle.wire.specs.Values.{Entry, Tag, Told, kept, lacks, short, tell}
use Rattle.wire.specs.Reading.{Spot, Outcome, reached, refused, read, fit}

-- the entries that were told apart as a value's
unfoldable pub entries : List Tag → List Entry
entries ts = map (λ t. t.entry) ts

-- the entries that were told apart
unfoldable pub over : Told → List Entry
over (kept ts rest) = entries ts ++ rest
over (lacks ts e rest) = entries ts ++ e ∷ rest
over (short ts) = entries ts

-- Telling entries apart leaves none out, adds none and keeps their order.
abbrev pub TellsAll : Type 0
TellsAll = (t : Shape) (es : List Entry) → over (tell t es) ≡ es

-- a step tells the entries es apart as ts, and whatever stands behind them is left
pub record Tells (u : List Entry → Told) (es : List Entry) (ts : List Tag) : Type 0 where
  pub told : (rest : List Entry) → u (es ++ rest) ≡ kept ts rest

-- the entries of a reading that reached its end are told apart, whatever follows; those of one that was refused are too few
pub data Kept (u : List Entry → Told) (es : List Entry) : Outcome → Type 0 where
  keeps : {y : Spot} (ts : List Tag) → Tells u es ts → Kept u es (reached y)
  cuts : {e : Refusal} {p : ℕ} (ts : List Tag) → u es ≡ short ts → Kept u es (refused e p)

-- So it is with every shape, for every room.
abbrev pub ReadTold : Type 0
ReadTold = (t : Shape) (room : ℕ) (x : Spot) → Kept (tell t) (fit room (read t x)).made (fit room (read t x)).ends
