-- A law of a walk's parts is a law of the walk.
-- Assumes nothing.
use mathlib.Core.Path.{◌≡◌, refl, sym}
use mathlib.Core.Bool.{Bool, true, false}
use mathlib.Core.List.{List}
use Prim.Native.Nat.{ℕ, zero, suc, ◌≤◌, ◌<◌}
use native.Mathlib.Nat.{not-suc-le-zero}
use borrow.Author.Tests.{ltb-true}
use native.Mathlib.Omega.{arith}
use Rattle.wire.specs.Tests.{decided}
use Rattle.wire.specs.Shape.{Kind, plain, pooled, option, sequence, map, struct, enum, same_kind, Shape, node, Shapes, none, more, count}
use Rattle.wire.specs.Walk.{Follow, following, is_known, Walk, Step, all, times, nth, along, walk, walks}
use Rattle.wire.specs.Append.{is_open, Matches, First, Appends}
use Rattle.wire.specs.Append as append
use Rattle.laws.proofs.Splits.{not-both}
use Rattle.laws.specs.Steps.{row, Steps, Law, Appending, Every}

pub first_count : {free : Bool} {ss ts : Shapes} → First free ss ts → count ss ≤ count ts
unfolding count
first_count append.ended = omega arith
first_count append.appended = omega arith
first_count (append.also m n) = let h = first_count n in omega arith

neither : (b : Bool) → (b ≡ false → ⊥) → (b ≡ true → ⊥) → ⊥
neither true h k = k refl
neither false h k = h refl

node-children : {k : Kind} {ss ts : Shapes} → node k ss ≡ node k ts → ss ≡ ts
node-children e = cc

more-first : {s t : Shape} {ss ts : Shapes} → more s ss ≡ more t ts → s ≡ t
more-first e = cc

more-rest : {s t : Shape} {ss ts : Shapes} → more s ss ≡ more t ts → ss ≡ ts
more-rest e = cc

-- ---- the walk

-- both laws: of one shape, or of two that match, where an item may count on the first words that the old kind knows
record General (one : Bool) {I J : Type 0} (olds : I → Walk) (news : J → Walk) (R : Steps olds → Steps news → Type 0) : Type 0 where
  none : R (λ i. (olds i).nothing) (λ j. (news j).nothing)
  both : {f f' : Steps olds} {g g' : Steps news} → R f g → R f' g' → R (λ i. (olds i).then (f i) (f' i)) (λ j. (news j).then (g j) (g' j))
  made : (f : Follow → Steps olds) (g : Follow → Steps news) (k : Kind) (n m : ℕ) → n ≤ m
      → ((a : ℕ) → (one ≡ false → is_known (following k a) n ≡ true) → R (f (following k a)) (g (following k a)))
      → R (λ i. (olds i).item k n (λ a. f (following k a) i)) (λ j. (news j).item k m (λ a. g (following k a) j))

module _ {one : Bool} {I J : Type 0} {olds : I → Walk} {news : J → Walk} {R : Steps olds → Steps news → Type 0} (law : General one olds news R) where
  of-times : {f : Steps olds} {g : Steps news} → R f g → (c : ℕ)
      → R (λ i. times (olds i) c (f i)) (λ j. times (news j) c (g j))
  unfolding times
  of-times h zero = law.none
  of-times h (suc c) = law.both h (of-times h c)

  -- what follows an item: its children in a row, or one that it knows
  of-along : (k : Kind) (a n : ℕ) (fs : (i : I) → List (Step (olds i))) (gs : (j : J) → List (Step (news j)))
      → (is_open k ≡ false → R (λ i. all (olds i) (fs i)) (λ j. all (news j) (gs j)))
      → ((v : ℕ) → (one ≡ false → v < n) → R (λ i. nth (olds i) (fs i) v) (λ j. nth (news j) (gs j) v))
      → (one ≡ false → is_known (following k a) n ≡ true)
      → R (λ i. along (olds i) (following k a) (fs i)) (λ j. along (news j) (following k a) (gs j))
  unfolding is_open same_kind decided is_known along following
  of-along (plain l) a n fs gs h hs e = of-times (h refl) 0
  of-along (pooled l) a n fs gs h hs e = of-times (h refl) 0
  of-along option a n fs gs h hs e = of-times (h refl) a
  of-along sequence a n fs gs h hs e = of-times (h refl) a
  of-along map a n fs gs h hs e = of-times (h refl) a
  of-along struct a n fs gs h hs e = of-times (h refl) 1
  of-along enum a n fs gs h hs e = hs a (λ q. ltb-true a n (e q))

  mutual
    unfolding walk all nth count

    of-walk : {s t : Shape} → Matches s t → (one ≡ true → s ≡ t) → R (λ i. walk (olds i) s) (λ j. walk (news j) t)
    of-walk (append.same {k} {ss} {ts} f) e =
        law.made (λ way i. along (olds i) way (walks (olds i) ss))
        (λ way j. along (news j) way (walks (news j) ts))
        k (count ss) (count ts) (first_count f)
        (λ a h. of-along k a (count ss) _ _ (λ c. of_row f c (λ q. node-children (e q))) (λ v h. of-nth f v h (λ q. node-children (e q))) h)

    of_row : {free : Bool} {ss ts : Shapes} → First free ss ts → free ≡ false → (one ≡ true → ss ≡ ts) → R (λ i. row (olds i) ss) (λ j. row (news j) ts)
    of_row append.ended c e = law.none
    of_row append.appended c e = not-both refl c
    of_row (append.also m n) c e = law.both (of-walk m (λ q. more-first (e q))) (of_row n c (λ q. more-rest (e q)))

    of-nth : {free : Bool} {ss ts : Shapes} → First free ss ts → (v : ℕ) → (one ≡ false → v < count ss) → (one ≡ true → ss ≡ ts)
        → R (λ i. nth (olds i) (walks (olds i) ss) v)
        (λ j. nth (news j) (walks (news j) ts) v)
    of-nth append.ended v h e = law.none
    of-nth append.appended v h e = absurd (neither one (λ q. not-suc-le-zero (h q)) (λ q. let z : ◌≡◌ {A = ℕ} 0 1 = cc (e q) in omega arith))
    of-nth (append.also m n) zero h e = of-walk m (λ q. more-first (e q))
    of-nth (append.also m n) (suc v) h e = of-nth n v (λ q. let l = h q in omega arith) (λ q. more-rest (e q))

-- ---- shapes that match, and appended fields

module _ {I J : Type 0} {olds : I → Walk} {news : J → Walk} {R : Steps olds → Steps news → Type 0} (law : Law olds news R) where
  of_two : General false olds news R
  of_two = record { none = law.none; both = law.both; made = λ f g k n m l h. law.made f g k n m l (λ a e. h a (λ q. e)) }

  pub walk-law : {s t : Shape} → Matches s t → R (λ i. walk (olds i) s) (λ j. walk (news j) t)
  walk-law m = of-walk of_two m (λ q. not-both refl (sym q))

  module _ {P : Steps olds → Steps news → Type 0} (appending : Appending olds news R P) where
    fields-law : {ss ts : Shapes} → First true ss ts → P (λ i. row (olds i) ss) (λ j. row (news j) ts)
    unfolding walk all
    fields-law append.ended = appending.end none
    fields-law (append.appended {t} {ts}) = appending.end (more t ts)
    fields-law (append.also m n) = appending.next (walk-law m) (fields-law n)

    pub appends-law : {s t : Shape} → Appends s t → P (λ i. walk (olds i) s) (λ j. walk (news j) t)
    unfolding walk along following times
    appends-law (append.matching m) = appending.whole (walk-law m)
    appends-law (append.fields {ss} {ts} f) = appending.root (count ss) (count ts) (fields-law f)

-- ---- one shape

mutual
  unfolding is_open

  pub matches-refl : (t : Shape) → Matches t t
  matches-refl (node k ts) = append.same (first-refl (is_open k) ts)

  pub first-refl : (free : Bool) (ts : Shapes) → First free ts ts
  first-refl free none = append.ended
  first-refl free (more t ts) = append.also (matches-refl t) (first-refl free ts)

module _ {I : Type 0} {ws : I → Walk} {P : Steps ws → Type 0} (e : Every ws P) where
  of_one : General true ws (λ (j : ⊥). absurd j) (λ f g. P f)
  of_one = record { none = e.none; both = e.both; made = λ f g k n m l h. e.made f k n (λ a. h a (λ q. not-both refl q)) }

  pub every : (t : Shape) → P (λ i. walk (ws i) t)
  every t = of-walk of_one (matches-refl t) (λ q. refl)

  pub every-row : (ts : Shapes) → P (λ i. row (ws i) ts)
  every-row ts = of_row of_one (first-refl false ts) refl (λ q. refl)
