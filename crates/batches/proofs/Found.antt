-- How often a row occurs: of as many rows, each at least as often is each as often; and the rows of messages differ.
-- Assumes nothing.
use mathlib.Core.Path.{◌≡◌, refl, ap, ◌∙◌}
use mathlib.Core.Bool.{Bool, true, false}
use mathlib.Core.List.{List, [], ◌∷◌}
use Prim.Native.Nat.{ℕ, zero, suc, ◌+◌, ◌<◌, ◌≤◌}
use native.Mathlib.Omega.{arith}
use lib.ListN.{length, get_or}
use Rattle.wire.specs.Tests.{pick}
use Rattle.laws.proofs.Splits.{by-test}
use Rattle.desk.specs.declared.Row.{Row}
use Rattle.desk.specs.Rows.{same_row}
use Rattle.batches.specs.Sorted.{tally, AllIn, none_left, each, OccursAt}
use Rattle.desk.specs.Messages.{Keyed, Message, rows_of}
use Rattle.batches.specs.Reads.{Reads, ended, also}
use Rattle.batches.proofs.Order.{same_row_lem, some-itself}

-- one row, or not
unfoldable pub is : Row → Row → ℕ
is r x = pick (same_row r x) 1 0

pub tally-cons : (r x : Row) (xs : List Row) → tally r (x ∷ xs) ≡ is r x + tally r xs
unfolding tally is
tally-cons r x xs = refl

pub tally-none : (r : Row) → tally r [] ≡ 0
unfolding tally
tally-none r = refl

-- ---- one less

unfoldable remove : Row → List Row → List Row
remove r [] = []
remove r (x ∷ xs) = pick (same_row r x) xs (x ∷ remove r xs)

remove-tally : (r x : Row) (xs : List Row) → 0 < tally x xs → tally r xs ≡ is r x + tally r (remove x xs)
remove-tally r x [] h = let e = tally-none x in absurd (omega arith)
remove-tally r x (y ∷ ys) h = go (same_row x y) refl (λ k. remove-tally r x ys k)
  where
    go : (t : Bool) → same_row x y ≡ t → (0 < tally x ys → tally r ys ≡ is r x + tally r (remove x ys)) → tally r (y ∷ ys) ≡ is r x + tally r (remove x (y ∷ ys))
    go true q ih = unfold remove pick in rw (q, same_row_lem x y q) (tally-cons r y ys)
    go false q ih = unfold remove pick in rw q (both_ways (ih (later q)))
      where
        later : same_row x y ≡ false → 0 < tally x ys
        later q = let e = tally-cons x y ys in let z : is x y ≡ 0 = unfold is pick in rw q in omega arith

        both_ways : tally r ys ≡ is r x + tally r (remove x ys) → tally r (y ∷ ys) ≡ is r x + tally r (y ∷ remove x ys)
        both_ways e = let a = tally-cons r y ys in let b = tally-cons r y (remove x ys) in omega arith

remove-length : (x : Row) (xs : List Row) → 0 < tally x xs → length xs ≡ suc (length (remove x xs))
remove-length x [] h = let e = tally-none x in absurd (omega arith)
remove-length x (y ∷ ys) h = go (same_row x y) refl (λ k. remove-length x ys k)
  where
    go : (t : Bool) → same_row x y ≡ t → (0 < tally x ys → length ys ≡ suc (length (remove x ys))) → length (y ∷ ys) ≡ suc (length (remove x (y ∷ ys)))
    go true q ih = unfold remove pick in rw q
    go false q ih = unfold remove pick in rw q (ap suc (ih (later q)))
      where
        later : same_row x y ≡ false → 0 < tally x ys
        later q = let e = tally-cons x y ys in let z : is x y ≡ 0 = unfold is pick in rw q in omega arith

-- as many, and each at least as often: each as often
pub tallies : (xs ys : List Row) → length ys ≡ length xs → ((r : Row) → tally r xs ≤ tally r ys) → (r : Row) → tally r ys ≡ tally r xs
tallies [] [] n h r = refl
tallies [] (y ∷ ys) n h r = absurd (omega arith)
tallies (x ∷ xs) ys n h r =
    let some : 0 < tally x ys = omega (arith, h x, some-itself x xs) in
    let less = remove-length x ys some in
    let ih = tallies xs (remove x ys) (omega arith) (λ q. omega (arith, h q, tally-cons q x xs, remove-tally q x ys some)) r in
    omega (arith, tally-cons r x xs, remove-tally r x ys some)

-- ---- the rows of messages differ

early : (r : Row) (at : ℕ) (ms : List Message) → r.offset < at → tally r (rows_of at ms) ≡ 0
unfolding rows_of
early r at [] l = tally-none r
early r at (m ∷ ms) l = tally-cons r _ _ ∙ zeros (early r (at + length m.bytes) ms (omega arith)) other
  where
    other : is r (record { key = m.key; offset = at }) ≡ 0
    other = unfold is in by-test (same_row r (record { key = m.key; offset = at })) (λ q. absurd (clash (ap (λ (x : Row). x.offset) (same_row_lem _ _ q)))) (λ q. unfold pick in rw q)
      where
        clash : r.offset ≡ at → ⊥
        clash e = omega arith

    zeros : {a b : ℕ} → a ≡ 0 → b ≡ 0 → b + a ≡ 0
    zeros e f = omega arith

pub once : {k : Keyed} {s : List ℕ} {ms : List Message} (r : Row) (at : ℕ) → Reads k s ms → tally r (rows_of at ms) ≤ 1
unfolding rows_of
once r at ended = let e = tally-none r in omega arith
once r at (also {m} {ms} q h l) =
    let x : Row = record { key = m.key; offset = at } in
    let e = tally-cons r x (rows_of (at + length m.bytes) ms) in
    let ih = once r (at + length m.bytes) l in
    by-test (same_row r x) (λ t. first t (ap (λ (x : Row). x.offset) (same_row_lem r x t)) e) (λ t. second t e ih)
  where
    first : same_row r (record { key = m.key; offset = at }) ≡ true → r.offset ≡ at
        → tally r (record { key = m.key; offset = at } ∷ rows_of (at + length m.bytes) ms) ≡ is r (record { key = m.key; offset = at }) + tally r (rows_of (at + length m.bytes) ms)
        → tally r (record { key = m.key; offset = at } ∷ rows_of (at + length m.bytes) ms) ≤ 1
    first t o e =
        let z = early r (at + length m.bytes) ms (omega arith) in
        let i : is r (record { key = m.key; offset = at }) ≡ 1 = unfold is pick in rw t in omega arith

    second : same_row r (record { key = m.key; offset = at }) ≡ false
        → tally r (record { key = m.key; offset = at } ∷ rows_of (at + length m.bytes) ms) ≡ is r (record { key = m.key; offset = at }) + tally r (rows_of (at + length m.bytes) ms)
        → tally r (rows_of (at + length m.bytes) ms) ≤ 1 → tally r (record { key = m.key; offset = at } ∷ rows_of (at + length m.bytes) ms) ≤ 1
    second t e ih = let i : is r (record { key = m.key; offset = at }) ≡ 0 = unfold is pick in rw t in omega arith

pub found_some : (r : Row) (rows xs : List Row) → AllIn rows xs → 0 < tally r xs → 0 < tally r rows
found_some r rows [] none_left h = let e = tally-none r in absurd (omega arith)
found_some r rows (x ∷ xs) (each l f) h =
    by-test (same_row r x) (λ q. rw (same_row_lem r x q) l)
    (λ q. found_some r rows xs f (later q))
  where
    later : same_row r x ≡ false → 0 < tally r xs
    later q = let e = tally-cons r x xs in let z : is r x ≡ 0 = unfold is pick in rw q in omega arith

pub tally-behind : (r x : Row) (xs : List Row) → 0 < tally r xs → 0 < tally r (x ∷ xs)
tally-behind r x xs h = let e = tally-cons r x xs in omega arith

pub occurs-at : OccursAt
occurs-at [] j d l = absurd (omega arith)
occurs-at (x ∷ xs) zero d l = some-itself x xs
occurs-at (x ∷ xs) (suc j) d l = let ih = occurs-at xs j d (omega arith) in let e = tally-cons (get_or xs j d) x xs in omega arith
