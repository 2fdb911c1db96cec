-- T-05: what is promised of two messages side by side.
-- Assumes nothing.
use Rattle.std.specs.Prelude.{◌≡◌, List, [], ◌++◌, ◌↔◌, ℕ, ◌≤◌, length}
use mathlib.Core.List as lists
use Rattle.wire.specs.declared.Refusal.{Refusal}
use Rattle.wire.specs.declared.Layout.{Layout}
use Rattle.wire.specs.Checked.{Good}
use Rattle.wire.specs.Shape.{Shape}
use Rattle.wire.specs.Table.{check, shape_of}
use Rattle.wire.specs.Values.{Entry, SameValues}
use Rattle.wire.specs.Reading.{Spot, Outcome, reached, refused}
use Rattle.wire.specs.Answers.{room_of, reads}
use Rattle.desk.specs.CompareAnswer.{Refused, OtherRefused}
use Rattle.desk.specs.Path.{most_entries}
use Rattle.desk.specs.Differ.{Pair, Answered, pairs, refuses, compares}
use Rattle.beside.specs.Laws.{turned}
use Rattle.beside.specs.Paths.{Placed, placed, Paired}

-- Each message is read as with a store of 16,384 entries. Both are read fully, and there are pairs; or the first one's refusal is
-- the answer, or else the second one's.
pub data FromReads : Outcome → Outcome → Answered → Type 0 where
  both : {x y : Spot} (ps : List Pair) → FromReads (reached x) (reached y) (pairs ps)
  first : {why : Refusal} {p : ℕ} {o : Outcome} → FromReads (refused why p) o (refuses (Refused why p))
  second : {x : Spot} {why : Refusal} {p : ℕ} → FromReads (reached x) (refused why p) (refuses (OtherRefused why p))

abbrev pub ComparesReads : Type 0
ComparesReads = (table one other store : List ℕ) → room_of store ≡ most_entries
    → FromReads (reads table one store).ends (reads table other store).ends (compares table one other)

-- The list is empty exactly if the values are the same.
abbrev pub EmptyExactly : Type 0
EmptyExactly = (table one other store : List ℕ) (l : Layout) → room_of store ≡ most_entries → check table ≡ Good l → (ps : List Pair) → compares table one other ≡ pairs ps
    → (ps ≡ []) ↔ SameValues (shape_of table l) one (reads table one store).made other (reads table other store).made

-- The pairs are in reading order, and each is the places of two entries that stand at the same path of positions: each reading's
-- entries have one path each.
pub record OnePath (t : Shape) (es fs : List Entry) (ps : List Pair) : Type 0 where
  pub ones : lists.map (λ (i : Placed). i.entry) (placed t es) ≡ es
  pub others : lists.map (λ (i : Placed). i.entry) (placed t fs) ≡ fs
  pub paired : Paired (placed t es) (placed t fs) ps

abbrev pub PairsOnPaths : Type 0
PairsOnPaths = (table one other store : List ℕ) (l : Layout) → room_of store ≡ most_entries → check table ≡ Good l → (ps : List Pair) → compares table one other ≡ pairs ps
    → OnePath (shape_of table l) (reads table one store).made (reads table other store).made ps

-- The messages the other way round give the pairs the other way round.
abbrev pub ComparesTurned : Type 0
ComparesTurned = (table one other : List ℕ) (ps : List Pair) → compares table one other ≡ pairs ps → compares table other one ≡ pairs (lists.map turned ps)

-- There are at most 16,384 pairs.
abbrev pub PairsFew : Type 0
PairsFew = (table one other : List ℕ) (ps : List Pair) → compares table one other ≡ pairs ps → length ps ≤ most_entries

-- The unread rest is ignored: bytes behind either message change nothing.
abbrev pub RestIgnored : Type 0
RestIgnored = (table one other extra extra' : List ℕ) (ps : List Pair) → compares table one other ≡ pairs ps → compares table (one ++ extra) (other ++ extra') ≡ pairs ps
