-- Rows that rise hold each row once, so that as many as there are messages, each of which is a message's, are the messages' rows sorted.
-- Assumes nothing.
use mathlib.Core.Path.{◌≡◌, refl, sym, ap, ◌∙◌}
use mathlib.Core.Bool.{Bool, true, false, not}
use mathlib.Core.List.{List, [], ◌∷◌}
use Prim.Native.Nat.{◌<◌, ◌≤◌}
use native.Mathlib.Omega.{arith}
use Rattle.wire.specs.Tests.{pick}
use Rattle.laws.proofs.Splits.{by-test, by-lt, not-both, both_yes, both_left, both_right}
use Rattle.desk.specs.declared.Row.{Row}
use Rattle.desk.specs.Rows.{same_row, not_after, sort}
use Rattle.desk.specs.Messages.{rows_of}
use Rattle.batches.specs.Sorted.{is_sorted, is_rising, tally, SortedIfThose, SortedRises}
use Rattle.batches.proofs.Order.{same_row_lem, row-itself, not-after-other, not-after-both, some-itself, tail-sorted, next-after, first-least, sort_sorted, sort-tally, sorts-once}
use Rattle.batches.proofs.Bytes.{length-rows_of}
use Rattle.batches.proofs.Found.{is, tally-cons, tally-none, tallies, once, found_some}

pub of-not : (t : Bool) → not t ≡ true → t ≡ false
of-not true e = not-both e refl
of-not false e = refl

-- ---- rising rows are sorted, and each is there once

rising-first : (x y : Row) (ys : List Row) → is_rising (x ∷ y ∷ ys) ≡ true → not_after y x ≡ false
unfolding is_rising
rising-first x y ys e = of-not (not_after y x) (both_left _ _ e)

rising-tail : (x : Row) (xs : List Row) → is_rising (x ∷ xs) ≡ true → is_rising xs ≡ true
unfolding is_rising
rising-tail x [] e = refl
rising-tail x (y ∷ ys) e = both_right _ _ e

pub rising-sorted : (xs : List Row) → is_rising xs ≡ true → is_sorted xs ≡ true
unfolding is_sorted
rising-sorted [] e = refl
rising-sorted (x ∷ []) e = refl
rising-sorted (x ∷ y ∷ ys) e = both_yes _ _ (not-after-other y x (rising-first x y ys e)) (rising-sorted (y ∷ ys) (rising-tail x (y ∷ ys) e))

none-behind : (x : Row) (xs : List Row) → is_rising (x ∷ xs) ≡ true → tally x xs ≡ 0
none-behind x [] e = tally-none x
none-behind x (y ∷ ys) e =
    by-lt 0 (tally x (y ∷ ys))
    (λ h. not-both (first-least ys y x (rising-sorted (y ∷ ys) (rising-tail x (y ∷ ys) e)) h) (rising-first x y ys e))
    (λ h. omega arith)

rises-once : (xs : List Row) → is_rising xs ≡ true → (r : Row) → tally r xs ≤ 1
rises-once [] e r = omega (arith, tally-none r)
rises-once (x ∷ xs) e r = by-test (same_row r x) (λ q. one q) (λ q. other q (rises-once xs (rising-tail x xs e) r))
  where
    one : same_row r x ≡ true → tally r (x ∷ xs) ≤ 1
    one q =
        let z : tally r xs ≡ 0 = ap (λ r. tally r xs) (same_row_lem r x q) ∙ none-behind x xs e in
        let i : is r x ≡ 1 = unfold is pick in rw q in
        omega (arith, tally-cons r x xs)

    other : same_row r x ≡ false → tally r xs ≤ 1 → tally r (x ∷ xs) ≤ 1
    other q ih = let i : is r x ≡ 0 = unfold is pick in rw q in omega (arith, tally-cons r x xs)

pub sorted-if-those : SortedIfThose
sorted-if-those ms rows o n f =
    sorts-once (rows_of 0 ms) rows
    (record { ordered = rising-sorted rows o; same = λ r. sym (tallies rows (rows_of 0 ms) (length-rows_of 0 ms ∙ sym n) (λ q. most q) r) })
  where
    most : (q : Row) → tally q rows ≤ tally q (rows_of 0 ms)
    most q =
        by-lt 0 (tally q rows) (λ h. let a = rises-once rows o q in let b = found_some q (rows_of 0 ms) rows f h in omega arith) (λ h. omega arith)

-- ---- sorted rows that are there once rise

rising-of : (xs : List Row) → is_sorted xs ≡ true → ((r : Row) → tally r xs ≤ 1) → is_rising xs ≡ true
unfolding is_rising
rising-of [] e f = refl
rising-of (x ∷ []) e f = refl
rising-of (x ∷ y ∷ ys) e f =
    both_yes _ _
    (by-test (not_after y x) (λ q. absurd (twice (not-after-both x y (next-after x y ys e) q))) (λ q. ap not q))
    (rising-of (y ∷ ys) (tail-sorted x (y ∷ ys) e) (λ r. omega (arith, f r, tally-cons r x (y ∷ ys))))
  where
    twice : x ≡ y → ⊥
    twice q =
        let some : 0 < tally x (y ∷ ys) = rw q (some-itself y ys) in
        let i : is x x ≡ 1 = unfold is pick in rw (row-itself x) in
        omega (arith, f x, tally-cons x x (y ∷ ys))

pub sorted_rises : SortedRises
sorted_rises k s ms r = rising-of (sort (rows_of 0 ms)) (sort_sorted (rows_of 0 ms)) (λ q. omega (arith, once q 0 r, sort-tally q (rows_of 0 ms)))
