-- Both messages gone over at once go where the two readings go: nothing, one step and then another, an item.
-- Assumes nothing.
use mathlib.Core.Path.{◌≡◌, refl, ap, subst}
use mathlib.Core.Bool.{Bool, true, false}
use mathlib.Core.List.{List, [], ◌∷◌, ◌++◌}
use Prim.Native.Nat.{ℕ, zero, suc, ◌+◌, ◌≤◌}
use native.Mathlib.Omega.{arith}
use lib.ListN.{length, length-append}
use lib.Dec.{eqb}
use borrow.Author.Tests.{eqb-true}
use Rattle.wire.specs.Item.{Item}
use Rattle.wire.specs.Item.{Took, Refused}
use Rattle.wire.specs.declared.Own.{Own}
use Rattle.wire.specs.Tests.{pick, given}
use Rattle.wire.specs.Shape.{Kind, plain, pooled, option, sequence, map, struct, enum, Shapes}
use Rattle.wire.specs.Walk.{Follow, following, Walk, times}
use Rattle.wire.specs.Values.{Entry, is_pooled}
use Rattle.wire.specs.Reading.{head, Spot, Run, Outcome, run_after, read_nothing, read_on, read_then, past, entry_of, enter, read_item, reading, read}
use Rattle.laws.specs.Steps.{Every, row}
use Rattle.laws.proofs.Walks.{every, every-row}
use Rattle.desk.specs.Differ.{Pair, Sides, beside, alone, sole}
use Rattle.beside.specs.Meeting.{same_own, Met, met_after, meet_nothing, meet_on, meet_then, met_apart, meet_two, meet_one, meet_item, meeting}
use Rattle.beside.specs.Laws.{Passes, passes, stops, Meets, ends, first, second, MeetsReads, ShapeMeets}

-- ---- nothing, and one step and then another

pub reads_nothing : MeetsReads read_nothing meet_nothing
unfolding read_nothing meet_nothing
reads_nothing = record { passing = λ x. passes; meeting = λ x y. ends {ps = []} (omega arith) }

module _ {f g : Spot → Run} {c d : Sides Spot → Met} (h : MeetsReads f c) (k : MeetsReads g d) where
  pass_on : (es : List Entry) {fs : List Entry} {o : Outcome} {r : Met} → Passes fs o r → Passes (es ++ fs) o (met_after (length es) 0 [] r)
  unfolding met_after
  pass_on es {fs} passes = rw (← length-append es fs) passes
  pass_on es stops = stops

  pass-then : {es : List Entry} {o : Outcome} {r : Met} → Passes es o r → Passes (read_on es o g).made (read_on es o g).ends (meet_on r d)
  unfolding read_on meet_on run_after
  pass-then {es} (passes {x}) = pass_on es (k.passing x)
  pass-then stops = stops

  meet-on : (es fs : List Entry) (ps : List Pair) → length ps ≤ length es → {es' fs' : List Entry} {o o' : Outcome} {r : Met} → Meets es' o fs' o' r
      → Meets (es ++ es') o (fs ++ fs') o' (met_after (length es) (length fs) ps r)
  unfolding met_after
  meet-on es fs ps l {es'} (ends {fs = fs'} {ps = qs} l') =
      rw (← length-append es es', ← length-append fs fs') (ends {ps = ps ++ qs} (rw (length-append ps qs, length-append es es') (omega arith)))
  meet-on es fs ps l first = first
  meet-on es fs ps l second = second

  meet-then : {es fs : List Entry} {o o' : Outcome} {r : Met} → Meets es o fs o' r
      → Meets (read_on es o g).made (read_on es o g).ends (read_on fs o' g).made (read_on fs o' g).ends (meet_on r d)
  unfolding read_on meet_on run_after
  meet-then {es} {fs} (ends {x} {y} {ps = ps} l) = meet-on es fs ps l (k.meeting x y)
  meet-then first = first
  meet-then second = second

  pub reads_then : MeetsReads (read_then f g) (meet_then c d)
  unfolding read_then meet_then
  reads_then = record { passing = λ x. pass-then (h.passing x); meeting = λ x y. meet-then (h.meeting x y) }

-- ---- an item

pub one_more : (n : ℕ) → 1 + n ≡ suc n
one_more n = omega arith

module _ (k : Kind) (n : ℕ) (f : Follow → Spot → Run) (d : Follow → Sides Spot → Met) (h : (a : ℕ) → MeetsReads (f (following k a)) (d (following k a)))
    (follows : (a b : Own) (s t : List ℕ) → same_own k a s b t ≡ true → following k a.first ≡ following k b.first) where
  abbrev nexts : ℕ → Spot → Run
  nexts a = f (following k a)

  abbrev nexts' : ℕ → Sides Spot → Met
  nexts' a = d (following k a)

  inside_one : (e : Entry) {es : List Entry} {o : Outcome} {r : Met} → Passes es o r → Passes (e ∷ es) o (met_after 1 0 [] r)
  unfolding met_after
  inside_one e {es} passes = rw (one_more (length es)) passes
  inside_one e stops = stops

  pass-item : (x : Spot) (i : Item) → Passes (enter i nexts x).made (enter i nexts x).ends (meet_one nexts' x i)
  unfolding enter meet_one run_after
  pass-item x (Took a) = inside_one (entry_of a x) ((h a.first).passing (past a.used x))
  pass-item x (Refused why) = stops

  inside-two : (e e' : Entry) {es fs : List Entry} {o o' : Outcome} {r : Met} → Meets es o fs o' r → Meets (e ∷ es) o (e' ∷ fs) o' (met_after 1 1 [] r)
  unfolding met_after
  inside-two e e' {es} {fs} (ends {ps = ps} l) = rw (one_more (length es), one_more (length fs)) (ends {ps = ps} (omega arith))
  inside-two e e' first = first
  inside-two e e' second = second

  apart-two : (p : Pair) (e e' : Entry) {es fs : List Entry} {o o' : Outcome} {r r' : Met} → Passes es o r → Passes fs o' r' → Meets (e ∷ es) o (e' ∷ fs) o' (met_apart p r r')
  unfolding met_apart sole
  apart-two p e e' {es} {fs} passes passes = rw (one_more (length es), one_more (length fs)) (ends {ps = p ∷ []} (omega arith))
  apart-two p e e' passes stops = second
  apart-two p e e' stops passes = first
  apart-two p e e' stops stops = first

  -- what follows on the second side is what follows on the first
  both-next : {v : Follow} (a : ℕ) → following k a ≡ v → (x y : Spot) → Meets (nexts a x).made (nexts a x).ends (f v y).made (f v y).ends (nexts' a (beside x y))
  both-next a e x y = subst (λ v. Meets (nexts a x).made (nexts a x).ends (f v y).made (f v y).ends (nexts' a (beside x y))) e ((h a).meeting x y)

  two : (x y : Spot) (a b : Own) (t : Bool) → same_own k a x.bytes b y.bytes ≡ t
      → Meets (entry_of a x ∷ (nexts a.first (past a.used x)).made) (nexts a.first (past a.used x)).ends (entry_of b y ∷ (nexts b.first (past b.used y)).made) (nexts b.first (past b.used y)).ends
      (given t (λ _. met_after 1 1 [] (nexts' a.first (beside (past a.used x) (past b.used y))))
      (met_apart (record { one = x.place; other = y.place }) (nexts' a.first (alone (past a.used x))) (nexts' b.first (alone (past b.used y)))))
  unfolding given
  two x y a b true q =
      inside-two (entry_of a x) (entry_of b y) (both-next a.first (follows a b x.bytes y.bytes q) (past a.used x) (past b.used y))
  two x y a b false q = apart-two _ (entry_of a x) (entry_of b y) ((h a.first).passing (past a.used x)) ((h b.first).passing (past b.used y))

  meet-item : (x y : Spot) (i j : Item) → Meets (enter i nexts x).made (enter i nexts x).ends (enter j nexts y).made (enter j nexts y).ends (meet_two k nexts' x y i j)
  unfolding enter meet_two run_after
  meet-item x y (Took a) (Took b) = two x y a b (same_own k a x.bytes b y.bytes) refl
  meet-item x y (Took a) (Refused why) = second
  meet-item x y (Refused why) j = first

  pub reads-item : MeetsReads (read_item head k n nexts) (meet_item k n nexts')
  unfolding read_item meet_item
  reads-item = record { passing = λ x. pass-item x (head k n x.place x.bytes); meeting = λ x y. meet-item x y (head k n x.place x.bytes) (head k n y.place y.bytes) }

-- ---- a shape

-- what follows two items that are the same is the same
number-follows : (k : Kind) (a b : ℕ) → eqb a b ≡ true → following k a ≡ following k b
number-follows k a b e = ap (following k) (eqb-true a b e)

pub own-follows : (k : Kind) (a b : Own) (s t : List ℕ) → same_own k a s b t ≡ true → following k a.first ≡ following k b.first
unfolding same_own is_pooled pick
own-follows (plain l) a b s t e = unfold following in refl
own-follows (pooled c) a b s t e = unfold following in refl
own-follows option a b s t e = number-follows option a.first b.first e
own-follows sequence a b s t e = number-follows sequence a.first b.first e
own-follows map a b s t e = number-follows map a.first b.first e
own-follows struct a b s t e = number-follows struct a.first b.first e
own-follows enum a b s t e = number-follows enum a.first b.first e

abbrev ways : Bool → Walk
ways true = reading head
ways false = meeting

pub each-meets : Every ways (λ f. MeetsReads (f true) (f false))
each-meets = record { none = reads_nothing; both = reads_then; made = λ f k n h. reads-item k n (λ way. f way true) (λ way. f way false) h (own-follows k) }

pub shape-meets : ShapeMeets
unfolding read
shape-meets t = every each-meets t

pub row-meets : (ts : Shapes) → MeetsReads (row (reading head) ts) (row meeting ts)
row-meets ts = every-row each-meets ts

pub rounds-meets : {f : Spot → Run} {d : Sides Spot → Met} → MeetsReads f d → (c : ℕ) → MeetsReads (times (reading head) c f) (times meeting c d)
unfolding times
rounds-meets h zero = reads_nothing
rounds-meets h (suc c) = reads_then h (rounds-meets h c)
