-- What a good table makes of a message: the plain reading, or the strict one, of its shape with room for so many entries.
-- Assumes nothing.
use mathlib.Core.Path.{◌≡◌, refl}
use mathlib.Core.Bool.{true, false}
use mathlib.Core.List.{List}
use Prim.Native.Nat.{ℕ}
use Rattle.wire.specs.declared.Layout.{Layout}
use Rattle.wire.specs.Checked.{Good}
use Rattle.wire.specs.Table.{shape_of}
use Rattle.wire.specs.Reading.{judged, head_by, front, read, read_strict, fit}
use Rattle.wire.specs.Answers.{read_by}

pub reads_plain : (l : Layout) (table : List ℕ) (room : ℕ) (message : List ℕ)
    → read_by false (Good l) table room message ≡ fit room (read (shape_of table l) (front message))
unfolding read_by read head_by judged
reads_plain l table room message = refl

pub reads-strict : (l : Layout) (table : List ℕ) (room : ℕ) (message : List ℕ)
    → read_by true (Good l) table room message ≡ fit room (read_strict (shape_of table l) (front message))
unfolding read_by read_strict
reads-strict l table room message = refl
