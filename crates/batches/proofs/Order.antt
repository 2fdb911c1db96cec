-- The order of rows, and that rows in order are the only ones of their tallies.
-- Assumes nothing.
use mathlib.Core.Path.{◌≡◌, refl, sym, ap, ◌∙◌}
use mathlib.Core.Bool.{Bool, true, false}
use mathlib.Core.List.{List, [], ◌∷◌}
use Prim.Native.Nat.{ℕ, ◌<◌, ◌≤◌}
use native.Mathlib.Omega.{arith}
use lib.Dec.{ltb, eqb}
use borrow.Author.Tests.{ltb-true, ltb-false, leb-true, leb-false, eqb-true, eqb-false, lt-ltb, le-leb, eq-eqb, ne_eqb}
use Rattle.wire.specs.Tests.{pick}
use Rattle.laws.proofs.Splits.{by-test, by-eq, not-both, both_yes, both_left, both_right}
use Rattle.desk.specs.declared.Key.{Key}
use Rattle.desk.specs.declared.Row.{Row}
use Rattle.desk.specs.Rows.{same_key, same_row, same_rows, before_or, not_after, insert, sort}
use Rattle.batches.specs.Sorted.{is_sorted, tally, SortsOnce, SortSorts}

-- ---- sameness

pub key_of : (a b : Key) → a.store ≡ b.store → a.product ≡ b.product → a ≡ b
key_of a b s p = ap (λ x. record { store = x; product = a.product }) s ∙ ap (λ x. record { store = b.store; product = x }) p

row_of : (a b : Row) → a.key ≡ b.key → a.offset ≡ b.offset → a ≡ b
row_of a b k o = ap (λ x. record { key = x; offset = a.offset }) k ∙ ap (λ x. record { key = b.key; offset = x }) o

pub same_key_lem : (a b : Key) → same_key a b ≡ true → a ≡ b
unfolding same_key
same_key_lem a b e = key_of a b (eqb-true _ _ (both_left _ _ e)) (eqb-true _ _ (both_right _ _ e))

pub key-itself : (a : Key) → same_key a a ≡ true
unfolding same_key
key-itself a = both_yes _ _ (eq-eqb a.store _ refl) (eq-eqb a.product _ refl)

pub same_row_lem : (a b : Row) → same_row a b ≡ true → a ≡ b
unfolding same_row
same_row_lem a b e = row_of a b (same_key_lem _ _ (both_left _ _ e)) (eqb-true _ _ (both_right _ _ e))

pub row-itself : (a : Row) → same_row a a ≡ true
unfolding same_row
row-itself a = both_yes _ _ (key-itself a.key) (eq-eqb a.offset _ refl)

pub same-rows : (xs ys : List Row) → same_rows xs ys ≡ true → xs ≡ ys
unfolding same_rows
same-rows [] [] e = refl
same-rows [] (y ∷ ys) e = not-both e refl
same-rows (x ∷ xs) [] e = not-both e refl
same-rows (x ∷ xs) (y ∷ ys) e =
    let h : x ≡ y = same_row_lem x y (both_left _ _ e) in
    let t : xs ≡ ys = same-rows xs ys (both_right _ _ e) in
    cc

pub rows-itself : (xs : List Row) → same_rows xs xs ≡ true
unfolding same_rows
rows-itself [] = refl
rows-itself (x ∷ xs) = both_yes _ _ (row-itself x) (rows-itself xs)

-- ---- the order

pub by_before {ℓ} : {X : Type ℓ} (a b : ℕ) (t : Bool) → before_or a b t ≡ true → (a < b → X) → (a ≡ b → t ≡ true → X) → X
unfolding before_or pick
by_before a b t e f g =
    by-test (eqb a b) (λ q. g (eqb-true a b q) (rw q at e)) (λ q. f (ltb-true a b (rw q at e)))

before-less : (a b : ℕ) (t : Bool) → a < b → before_or a b t ≡ true
unfolding before_or pick
before-less a b t h = rw (ne_eqb a b (λ q. omega arith), lt-ltb a b h)

pub before_same : (a b : ℕ) (t : Bool) → a ≡ b → t ≡ true → before_or a b t ≡ true
unfolding before_or pick
before_same a b t q e = rw (eq-eqb a b q) e

before-not : (a b : ℕ) (t u : Bool) → before_or a b t ≡ false → (t ≡ false → u ≡ true) → before_or b a u ≡ true
unfolding before_or pick
before-not a b t u e f =
    by-test (eqb a b) (λ q. before_same b a u (sym (eqb-true a b q)) (f (rw q at e)))
    (λ q. let h : b ≤ a = ltb-false a b (rw q at e) in let n : a ≡ b → ⊥ = eqb-false a b q in
    before-less b a u (by-eq a b (λ s. absurd (n s)) (λ s. less_of h s)))
  where
    less_of : b ≤ a → (a ≡ b → ⊥) → b < a
    less_of h s = by-test (ltb b a) (λ z. ltb-true b a z) (λ z. let l : a ≤ b = ltb-false b a z in let q : a ≡ b = omega arith in absurd (s q))

pub before-trans : (a b c : ℕ) (t u v : Bool) → (t ≡ true → u ≡ true → v ≡ true) → before_or a b t ≡ true → before_or b c u ≡ true → before_or a c v ≡ true
before-trans a b c t u v f e g =
    by_before a b t e (λ h. by_before b c u g (λ k. before-less a c v (omega arith)) (λ k m. before-less a c v (omega arith)))
    (λ h l. by_before b c u g (λ k. before-less a c v (omega arith)) (λ k m. before_same a c v (omega arith) (f l m)))

pub not-after-trans : (a b c : Row) → not_after a b ≡ true → not_after b c ≡ true → not_after a c ≡ true
unfolding not_after
not-after-trans a b c =
    before-trans a.key.store b.key.store c.key.store _ _ _
    (before-trans a.key.product b.key.product c.key.product _ _ _
    (λ h k. le-leb a.offset c.offset (le_of (leb-true a.offset b.offset h) (leb-true b.offset c.offset k))))
  where
    le_of : {x y z : ℕ} → x ≤ y → y ≤ z → x ≤ z
    le_of h k = omega arith

pub not-after-other : (a b : Row) → not_after a b ≡ false → not_after b a ≡ true
unfolding not_after
not-after-other a b e =
    before-not a.key.store b.key.store _ _ e
    (λ f. before-not a.key.product b.key.product _ _ f (λ g. le-leb b.offset a.offset (less_le (leb-false a.offset b.offset g))))
  where
    less_le : {x y : ℕ} → x < y → x ≤ y
    less_le h = omega arith

pub not-after-itself : (a : Row) → not_after a a ≡ true
unfolding not_after
not-after-itself a =
    before_same a.key.store a.key.store _ refl (before_same a.key.product a.key.product _ refl (le-leb a.offset a.offset (omega arith)))

pub before-both {ℓ} : {X : Type ℓ} (a b : ℕ) (t u : Bool) → before_or a b t ≡ true → before_or b a u ≡ true → (a ≡ b → t ≡ true → u ≡ true → X) → X
before-both a b t u e g f =
    by_before a b t e (λ h. by_before b a u g (λ k. absurd (omega arith)) (λ k m. absurd (omega arith)))
    (λ h l. by_before b a u g (λ k. absurd (omega arith)) (λ k m. f h l m))

pub not-after-both : (a b : Row) → not_after a b ≡ true → not_after b a ≡ true → a ≡ b
unfolding not_after
not-after-both a b e g =
    before-both a.key.store b.key.store _ _ e g
    (λ s t u. before-both a.key.product b.key.product _ _ t u
    (λ p v w. row_of a b (key_of _ _ s p) (le_both (leb-true a.offset b.offset v) (leb-true b.offset a.offset w))))
  where
    le_both : {x y : ℕ} → x ≤ y → y ≤ x → x ≡ y
    le_both h k = omega arith

-- ---- rows in order

pub some-itself : (r : Row) (xs : List Row) → 0 < tally r (r ∷ xs)
unfolding tally pick
some-itself r xs = rw (row-itself r) (omega arith)

pub tail-sorted : (x : Row) (xs : List Row) → is_sorted (x ∷ xs) ≡ true → is_sorted xs ≡ true
unfolding is_sorted
tail-sorted x [] e = refl
tail-sorted x (y ∷ ys) e = both_right _ _ e

pub next-after : (x y : Row) (ys : List Row) → is_sorted (x ∷ y ∷ ys) ≡ true → not_after x y ≡ true
unfolding is_sorted
next-after x y ys e = both_left _ _ e

-- a row that is not the first occurs behind it
pub others : (r x : Row) (xs : List Row) → same_row r x ≡ false → 0 < tally r (x ∷ xs) → 0 < tally r xs
unfolding tally pick
others r x xs q h = let z : ◌≡◌ {A = ℕ} (pick (same_row r x) 1 0) 0 = rw q in omega arith

tally-less : (r x : Row) (xs ys : List Row) → tally r (x ∷ xs) ≡ tally r (x ∷ ys) → tally r xs ≡ tally r ys
unfolding tally
tally-less r x xs ys h = omega arith

-- no row that occurs stands before the first
pub first-least : (xs : List Row) (x r : Row) → is_sorted (x ∷ xs) ≡ true → 0 < tally r (x ∷ xs) → not_after x r ≡ true
first-least [] x r e h = by-test (same_row r x) (λ q. rw (same_row_lem r x q) (not-after-itself x)) (λ q. absurd (nothing (others r x [] q h)))
  where
    nothing : 0 < tally r [] → ⊥
    nothing k = unfold tally in omega arith
first-least (y ∷ ys) x r e h =
    by-test (same_row r x) (λ q. rw (same_row_lem r x q) (not-after-itself x))
    (λ q. not-after-trans x y r (next-after x y ys e) (first-least ys y r (tail-sorted x (y ∷ ys) e) (others r x (y ∷ ys) q h)))

pub sorted-once : (xs ys : List Row) → is_sorted xs ≡ true → is_sorted ys ≡ true → ((r : Row) → tally r xs ≡ tally r ys) → xs ≡ ys
sorted-once [] [] e f h = refl
sorted-once [] (y ∷ ys) e f h = absurd (none_of (h y))
  where
    none_of : tally y [] ≡ tally y (y ∷ ys) → ⊥
    none_of q = let s = some-itself y ys in unfold tally in omega arith
sorted-once (x ∷ xs) [] e f h = absurd (none_of (h x))
  where
    none_of : tally x (x ∷ xs) ≡ tally x [] → ⊥
    none_of q = let s = some-itself x xs in unfold tally in omega arith
sorted-once (x ∷ xs) (y ∷ ys) e f h =
    let q : x ≡ y = not-after-both x y (first-least xs x y e (rw (h y) (some-itself y ys))) (first-least ys y x f (rw (← h x) (some-itself x xs))) in
    let t : xs ≡ ys = sorted-once xs ys (tail-sorted x xs e) (tail-sorted y ys f) (λ r. less r q) in
    cc
  where
    less : (r : Row) → x ≡ y → tally r xs ≡ tally r ys
    less r q = tally-less r x xs ys (h r ∙ ap (λ z. tally r (z ∷ ys)) (sym q))

-- ---- `sort` puts them in order

insert-tally : (r x : Row) (xs : List Row) → tally r (insert x xs) ≡ tally r (x ∷ xs)
unfolding insert pick
insert-tally r x [] = refl
insert-tally r x (y ∷ ys) = by-test (not_after x y) (λ q. rw q) (λ q. rw q (next (insert-tally r x ys)))
  where
    next : tally r (insert x ys) ≡ tally r (x ∷ ys) → tally r (y ∷ insert x ys) ≡ tally r (x ∷ y ∷ ys)
    next ih = unfold tally in omega arith

pub sort-tally : (r : Row) (xs : List Row) → tally r (sort xs) ≡ tally r xs
unfolding sort
sort-tally r [] = refl
sort-tally r (x ∷ xs) = insert-tally r x (sort xs) ∙ next (sort-tally r xs)
  where
    next : tally r (sort xs) ≡ tally r xs → tally r (x ∷ sort xs) ≡ tally r (x ∷ xs)
    next ih = unfold tally in omega arith

onto-sorted : (x r : Row) (xs : List Row) → not_after x r ≡ true → is_sorted (x ∷ xs) ≡ true → is_sorted (insert r xs) ≡ true → is_sorted (x ∷ insert r xs) ≡ true
unfolding insert is_sorted
onto-sorted x r [] h e f = both_yes _ _ h refl
onto-sorted x r (y ∷ ys) h e f = by-test (not_after r y) (λ q. first q) (λ q. second q)
  where
    first : not_after r y ≡ true → is_sorted (x ∷ pick (not_after r y) (r ∷ y ∷ ys) (y ∷ insert r ys)) ≡ true
    first q = unfold pick in rw q (both_yes _ _ h (rw q at f))

    second : not_after r y ≡ false → is_sorted (x ∷ pick (not_after r y) (r ∷ y ∷ ys) (y ∷ insert r ys)) ≡ true
    second q = unfold pick in rw q (both_yes _ _ (both_left _ _ e) (rw q at f))

insert-sorted : (r : Row) (xs : List Row) → is_sorted xs ≡ true → is_sorted (insert r xs) ≡ true
unfolding insert pick
insert-sorted r [] e = unfold is_sorted in refl
insert-sorted r (y ∷ ys) e =
    by-test (not_after r y) (λ q. rw q (unfold is_sorted in both_yes _ _ q e))
    (λ q. rw q (onto-sorted y r ys (not-after-other r y q) e (insert-sorted r ys (tail-sorted y ys e))))

pub sort_sorted : (xs : List Row) → is_sorted (sort xs) ≡ true
unfolding sort
sort_sorted [] = unfold is_sorted in refl
sort_sorted (x ∷ xs) = insert-sorted x (sort xs) (sort_sorted xs)

pub sort-sorts : SortSorts
sort-sorts rows = record { ordered = sort_sorted rows; same = λ r. sort-tally r rows }

pub sorts-once : SortsOnce
sorts-once rows sorted s = sorted-once sorted (sort rows) s.ordered (sort_sorted rows) (λ r. s.same r ∙ sym (sort-tally r rows))
