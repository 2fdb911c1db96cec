-- What is stated of two messages side by side, of shapes.
-- Assumes nothing.
use Rattle.std.specs.Prelude.{◌≡◌, List, [], ◌++◌, ℕ, ◌≤◌, length}
use mathlib.Core.List as lists
use Rattle.wire.specs.declared.Refusal.{Refusal}
use Rattle.wire.specs.Shape.{Shape}
use Rattle.wire.specs.Walk.{walk}
use Rattle.wire.specs.Values.{Entry, Value, whole, values, SameValues}
use Rattle.wire.specs.Reading.{Spot, front, Outcome, reached, refused, Run, read}
use Rattle.desk.specs.Differ.{Pair, Sides, beside, alone, differences}
use Rattle.beside.specs.Meeting.{Met, met, unread, meeting}

-- ---- the differences of two lists of entries

-- The same values have no differences,
abbrev pub SameEmpty : Type 0
SameEmpty = (t : Shape) (pool : List ℕ) (es : List Entry) (pool' : List ℕ) (fs : List Entry)
    → SameValues t pool es pool' fs → differences t pool es pool' fs ≡ []

-- and two whole lists without differences have the same values.
abbrev pub EmptySame : Type 0
EmptySame = (t : Shape) (pool : List ℕ) (es : List Entry) (pool' : List ℕ) (fs : List Entry) (vs ws : List Value)
    → values t pool es ≡ whole vs → values t pool' fs ≡ whole ws → differences t pool es pool' fs ≡ [] → SameValues t pool es pool' fs

-- The other way round, each pair is the other way round.
unfoldable pub turned : Pair → Pair
turned p = record { one = p.other; other = p.one }

abbrev pub Turns : Type 0
Turns = (t : Shape) (pool : List ℕ) (es : List Entry) (pool' : List ℕ) (fs : List Entry)
    → differences t pool' fs pool es ≡ lists.map turned (differences t pool es pool' fs)

-- There are no more pairs than entries on the first side.
abbrev pub FewPairs : Type 0
FewPairs = (t : Shape) (pool : List ℕ) (es : List Entry) (pool' : List ℕ) (fs : List Entry) → length (differences t pool es pool' fs) ≤ length es

-- Bytes behind a message that was read, in its pool, change nothing.
abbrev pub SameRest : Type 0
SameRest = (t : Shape) (one extra other : List ℕ) (es fs : List Entry) (x y : Spot)
    → read t (front one) ≡ record { made = es; ends = reached x } → read t (front other) ≡ record { made = fs; ends = reached y }
    → differences t (one ++ extra) es other fs ≡ differences t one es other fs

-- ---- both messages gone over at once

-- A side that goes alone goes where a reading goes, and makes as many entries.
pub data Passes (es : List Entry) : Outcome → Met → Type 0 where
  passes : {x : Spot} → Passes es (reached x) (met (length es) 0 [] (alone x))
  stops : {why : Refusal} {p : ℕ} → Passes es (refused why p) unread

-- Both sides go where two readings go, and make as many entries; or one of the readings is refused.
pub data Meets (es : List Entry) : Outcome → List Entry → Outcome → Met → Type 0 where
  ends : {x y : Spot} {fs : List Entry} {ps : List Pair} → length ps ≤ length es → Meets es (reached x) fs (reached y) (met (length es) (length fs) ps (beside x y))
  first : {why : Refusal} {p : ℕ} {fs : List Entry} {o : Outcome} → Meets es (refused why p) fs o unread
  second : {why : Refusal} {p : ℕ} {fs : List Entry} {o : Outcome} → Meets es o fs (refused why p) unread

-- so it is with a reading's step and that of both sides
pub record MeetsReads (f : Spot → Run) (d : Sides Spot → Met) : Type 0 where
  pub passing : (x : Spot) → Passes (f x).made (f x).ends (d (alone x))
  pub meeting : (x y : Spot) → Meets (f x).made (f x).ends (f y).made (f y).ends (d (beside x y))

abbrev pub ShapeMeets : Type 0
ShapeMeets = (t : Shape) → MeetsReads (read t) (walk meeting t)

-- Going over the bytes of two messages that are read gives the differences of their entries.
abbrev pub SameMet : Type 0
SameMet = (t : Shape) (one other : List ℕ) (es fs : List Entry) (x y : Spot)
    → read t (front one) ≡ record { made = es; ends = reached x } → read t (front other) ≡ record { made = fs; ends = reached y }
    → walk meeting t (beside (front one) (front other)) ≡ met (length es) (length fs) (differences t one es other fs) (beside x y)
