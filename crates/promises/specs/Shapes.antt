-- Laws about an old shape and a new one; no promise: demand 3 is stated of tables, and rests on these.
-- Assumes nothing.
use Rattle.std.specs.Prelude.{◌≡◌, Bool, true, false, List, [], ◌++◌, ◌↔◌, ℕ, drop}
use Rattle.std.proofs.Math.Option.{Option, none, some}
use Rattle.wire.specs.declared.Refusal.TheVariants.{Variant}
use Rattle.wire.specs.Shape.{Shape}
use Rattle.wire.specs.Walk.{walk}
use Rattle.wire.specs.Values.{Entry, Tag, Told, kept, lacks, short, tell, Value, Valued, whole, too_short, values}
use Rattle.wire.specs.Reading.{head_by, Spot, front, Outcome, reached, refused, Run, reading, fit}
use Rattle.wire.specs.Append.{Matches, Appends, appends}
use Rattle.laws.specs.Bounds.{start}
use Rattle.laws.specs.Told.{entries}

-- The test says yes exactly if the new shape appends to the old one.
abbrev pub ShapeYesExactly : Type 0
ShapeYesExactly = (s t : Shape) → (appends s t ≡ true) ↔ Appends s t

-- ---- the old reading

-- What a shape's reading makes of what stands at a spot, strictly or not.
abbrev pub read_with : (strict : Bool) → Shape → Spot → Run
read_with strict t x = walk (reading (head_by strict)) t x

-- The old run, as the old shape tells it from the entries of a reading of the message that ended at a place:
-- the values in front, and all bytes behind them; or the refusal of the first variant that is not known. Entries that are too few tell no run.
unfoldable pub seen : List ℕ → (end : ℕ) → Told → Option Run
seen message end (kept ts rest) =
    some (record { made = entries ts; ends = reached (record { bytes = drop (start rest end) message; place = start rest end }) })
seen message end (lacks ts e rest) = some (record { made = entries ts; ends = refused Variant e.place })
seen message end (short ts) = none

-- The old shape's reading of a message that the new one reads fully is what it sees of the new one's entries.
abbrev pub ShapeOldReads : Type 0
ShapeOldReads = (strict : Bool) (old new : Shape) → Appends old new → (message : List ℕ) (es : List Entry) (end : Spot)
    → read_with strict new (front message) ≡ record { made = es; ends = reached end }
    → seen message end.place (tell old es) ≡ some (read_with strict old (front message))

-- So it is with a store that has room for the new reading.
abbrev pub ShapeOldReadsWithin : Type 0
ShapeOldReadsWithin = (strict : Bool) (old new : Shape) → Appends old new → (room : ℕ) (message : List ℕ) (es : List Entry) (end : Spot)
    → fit room (read_with strict new (front message)) ≡ record { made = es; ends = reached end }
    → seen message end.place (tell old es) ≡ some (fit room (read_with strict old (front message)))

-- Without appended fields no entry is left over.
abbrev pub MatchingWhole : Type 0
MatchingWhole = (old new : Shape) → Matches old new → (x y : Spot) (es rest : List Entry) (ts : List Tag)
    → read_with false new x ≡ record { made = es; ends = reached y } → tell old es ≡ kept ts rest → (entries ts ≡ es) × (rest ≡ [])

-- ---- the values

-- An old reading's end, and the values of what it made, beside the new reading's values: the first of them, all that the old shape has;
-- or the first of them, and refused where the old shape's variants end.
pub data OldValues (vs : List Value) : Outcome → Valued → Type 0 where
  all-kept : {x : Spot} {us : List Value} (more : List Value) → vs ≡ us ++ more → OldValues vs (reached x) (whole us)
  cut : {p : ℕ} {us : List Value} (more : List Value) → vs ≡ us ++ more → OldValues vs (refused Variant p) (too_short us)

-- Never a different value: what the old reading made has the values that the new reading's begin with.
abbrev pub ShapeNeverAnother : Type 0
ShapeNeverAnother = (strict : Bool) (old new : Shape) → Appends old new → (room : ℕ) (message : List ℕ) (es : List Entry) (end : Spot)
    → fit room (read_with strict new (front message)) ≡ record { made = es; ends = reached end }
    → (vs : List Value) × (values new message es ≡ whole vs)
    × OldValues vs (fit room (read_with strict old (front message))).ends (values old message (fit room (read_with strict old (front message))).made)
