-- Laws about telling entries apart by one shape; no promise.
-- Assumes nothing.
use Rattle.std.specs.Prelude.{◌≡◌, Bool, List, [], ◌++◌}
use Rattle.wire.specs.Shape.{Shape}
use Rattle.wire.specs.Walk.{walk}
use Rattle.wire.specs.Values.{Entry, Tag, kept, lacks, short, tell}
use Rattle.wire.specs.Reading.{head_by, Spot, reached, reading}
use Rattle.laws.specs.Told.{entries}

-- What a shape's reading made it tells as its own, whatever follows.
abbrev pub OwnTold : Type 0
OwnTold = (strict : Bool) (t : Shape) (x y : Spot) (es rest : List Entry)
    → walk (reading (head_by strict)) t x ≡ record { made = es; ends = reached y } → (ts : List Tag) × (entries ts ≡ es) × (tell t (es ++ rest) ≡ kept ts rest)

-- Entries that are a shape's value are that value by themselves.
abbrev pub KeptAgain : Type 0
KeptAgain = (t : Shape) (es rest : List Entry) (ts : List Tag) → tell t es ≡ kept ts rest → tell t (entries ts) ≡ kept ts []

-- Entries in front of a variant that a shape lacks are too few by themselves.
abbrev pub LacksAgain : Type 0
LacksAgain = (t : Shape) (es rest : List Entry) (ts : List Tag) (e : Entry) → tell t es ≡ lacks ts e rest → tell t (entries ts) ≡ short ts
