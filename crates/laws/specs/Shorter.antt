-- A message without the bytes behind what was read.
-- Assumes nothing.
use Rattle.std.specs.Prelude.{◌≡◌, List, ℕ, ◌+◌, ◌≤◌, length}
use Rattle.wire.specs.Shape.{Shape, Shapes}
use Rattle.wire.specs.Values.{Entry}
use Rattle.wire.specs.Reading.{Spot, reached, Run, head, reading, read}
use Rattle.laws.specs.Steps.{row}
use Rattle.laws.specs.Longer.{longer}

-- the same run without some bytes, which it left
pub record Back (f : Spot → Run) (x : Spot) (extra : List ℕ) (es : List Entry) (z : Spot) : Type 0 where
  pub y : Spot
  pub ran : f x ≡ record { made = es; ends = reached y }
  pub end : z ≡ longer extra y

-- a run goes on, and keeps place and bytes together; and where it ends before some bytes, they may be taken away
pub record Shortens (f : Spot → Run) : Type 0 where
  pub on : (x z : Spot) (es : List Entry) → f x ≡ record { made = es; ends = reached z } → x.place ≤ z.place
  pub keeps : (x z : Spot) (es : List Entry) → f x ≡ record { made = es; ends = reached z } → z.place + length z.bytes ≡ x.place + length x.bytes
  pub back : (x : Spot) (extra : List ℕ) (z : Spot) (es : List Entry) → f (longer extra x) ≡ record { made = es; ends = reached z } → z.place ≤ x.place + length x.bytes → Back f x extra es z

-- So it is with every shape, and with shapes one after the other.
abbrev pub ReadShortens : Type 0
ReadShortens = (t : Shape) → Shortens (read t)

abbrev pub RowShortens : Type 0
RowShortens = (ts : Shapes) → Shortens (row (reading head) ts)
