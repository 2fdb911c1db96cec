-- What the comparison of two nodes asks and tells.
-- Assumes nothing.
use Rattle.std.specs.Prelude.{◌≡◌, Bool, List, ℕ, ◌≤◌, ◌<◌, leb, eqb, length}
use Rattle.wire.specs.declared.Layout.{Layout}
use Rattle.wire.specs.Checked.{Good}
use Rattle.wire.specs.AskAnswer.{AskAnswer}
use Rattle.wire.specs.Tests.{pick, both}
use Rattle.wire.specs.Table.{node_at, record_of, check}
use Rattle.wire.specs.Append.{firsts}
use Rattle.wire.specs.Answers.{area_bytes, ask_by}
use Rattle.laws.specs.Tables.{node_shapes, GoodTable, Limits}
use Rattle.append.specs.Area.{Sound}

-- so many old children go with so many new ones: as many, or at least as many where more may follow
abbrev pub suits : (free : Bool) → ℕ → ℕ → Bool
suits free n k = pick free (leb n k) (eqb n k)

-- the old node i and the new node j have the same kind's number, and their children match
unfoldable pub alike : (free : Bool) → List ℕ → Layout → ℕ → List ℕ → Layout → ℕ → Bool
alike free s l i t m j =
    both (eqb (node_at s (record_of l i)).number (node_at t (record_of m j)).number)
    (firsts free (node_shapes s l i (node_at s (record_of l i))) (node_shapes t m j (node_at t (record_of m j))))

-- the answer after a good old table
abbrev pub after : List ℕ → Layout → List ℕ → AskAnswer
after s l t = ask_by (Good l) (check t) s t

-- two good tables that keep to the limits, and a work area that is long enough
pub record Begun (s : List ℕ) (l : Layout) (t : List ℕ) (m : Layout) (a : List ℕ) : Type 0 where
  pub old : GoodTable s l
  pub new : GoodTable t m
  pub few-old : Limits l
  pub few-new : Limits m
  pub room : area_bytes ≤ length a

-- two nodes of such tables, and such an area in which a pair is marked only if it matches
pub record Asked (s : List ℕ) (l : Layout) (i : ℕ) (t : List ℕ) (m : Layout) (j : ℕ) (a : List ℕ) : Type 0 where
  pub begun : Begun s l t m a
  pub left : i < l.nodes
  pub right : j < m.nodes
  pub sound : Sound s l t m a

-- the answer, and such an area again
pub record Told (s : List ℕ) (l : Layout) (t : List ℕ) (m : Layout) (is : Bool) (a : List ℕ) (r : Bool) : Type 0 where
  pub answer : r ≡ is
  pub sound : Sound s l t m a
