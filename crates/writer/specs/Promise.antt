-- How far a list's form is kept in a room, and that the contract of the public call leaves no choice.
-- Assumes nothing.
use Rattle.std.specs.Prelude.{◌≡◌, List, ℕ, length}
use Rattle.wire.specs.WriteAnswer.{WriteAnswer}
use Rattle.wire.specs.declared.Layout.{Layout}
use Rattle.wire.specs.Table.{shape_of}
use Rattle.wire.specs.Writing.{write}
use Rattle.wire.specs.Answers.{writes}
use Rattle.laws.specs.Answered.{Writes}
use Rattle.laws.specs.Unique.{Unique}
use Rattle.write_list.specs.declared.Ahead.{Ahead}
use Rattle.write_list.specs.Steps.{entries, Reaches}

-- the form of a list stands in a room, as far as the list was put
pub record Kept (s : List ℕ) (l : Layout) (ws pool : List ℕ) (a : Ahead) (room : List ℕ) : Type 0 where
  pub before : List ℕ
  pub same : length before ≡ length room
  pub reached : Reaches pool s l (write (shape_of s l) pool (entries ws 0)) ws 0 before a room

-- One answer, and one output, meet the contract of `write`.
abbrev pub OneWriting : Type 0
OneWriting = (table ws pool out : List ℕ) → Unique (λ (r : WriteAnswer × List ℕ). Writes (writes table ws pool (length out)) out r.0 r.1)
