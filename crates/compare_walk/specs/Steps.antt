-- What a walk over both messages leaves, and how a round begins.
-- Letters: m and n the entries made on each side, c the pairs, s the list, z both sides, x and y spots.
-- Assumes nothing.
use Rattle.std.specs.Prelude.{Bool, true, false, List, ℕ, ◌+◌, ◌-◌, ◌<◌, length, leb}
use Rattle.wire.specs.Tests.{pick, both}
use Rattle.wire.specs.Values.{Entry}
use Rattle.wire.specs.Reading.{Spot, Outcome, reached, refused, Run}
use Rattle.desk.specs.Differ.{Sides, beside}
use Rattle.beside.specs.Meeting.{Met, met, unread}
use Rattle.compare_item.specs.Pairs.{pairs_from}
use Rattle.compare_walk.specs.Walked.{Walked}
use Rattle.compare_walk.specs.Walked.{Both, Apart}
use Rattle.compare_walk.specs.Begun.{Begun}
use Rattle.compare_walk.specs.Begun.{At, Full}

-- where both sides stand, the entries that each made, the pairs, and the list; or a side was refused
pub data Left : Type 0 where
  went : (z : Sides Spot) (m n c : ℕ) (s : List ℕ) → Left
  stopped : Left

-- what was gone over, behind the first m and n entries and c pairs, with room for so many entries on each side
unfoldable pub lay : (room : ℕ) → Met → (m n c : ℕ) → List ℕ → Left
lay room (met a b ps z) m n c s =
    pick (both (leb a (room - m)) (leb b (room - n))) (went z (m + a) (n + b) (c + length ps) (pairs_from ps c s)) stopped
lay room unread m n c s = stopped

-- a function's answer, and its list as it returns; where a side was refused, the list is no matter
pub data Gives : Left → Walked → List ℕ → Type 0 where
  goes : {x y : Spot} {m n c : ℕ} {s : List ℕ} → Gives (went (beside x y) m n c s) (Both x.place y.place m n c) s
  stops : {s : List ℕ} → Gives stopped Apart s

-- a round's own entry on each side, if it has one and there is room for it
pub data Begins (room m n : ℕ) : Bool → Begun → Type 0 where
  bare : Begins room m n false (At m n)
  put : m < room → n < room → Begins room m n true (At (m + 1) (n + 1))
  full : (m < room → n < room → ⊥) → Begins room m n true Full

-- each side went alone, behind the first m and n entries, and there are c pairs
unfoldable pub passed_by : (m n c : ℕ) → List Entry → Outcome → List Entry → Outcome → Walked
passed_by m n c es (reached x) fs (reached y) = Both x.place y.place (m + length es) (n + length fs) c
passed_by m n c es (reached x) fs (refused why p) = Apart
passed_by m n c es (refused why p) fs o = Apart

unfoldable pub passed : (m n c : ℕ) → Run → Run → Walked
passed m n c r q = passed_by m n c r.made r.ends q.made q.ends
