-- In sorted rows a search that ends where the rows turn from not after the key to after it has found the last row of the key.
-- Assumes nothing.
use mathlib.Core.Path.{◌≡◌, refl, sym, ap, ◌∙◌}
use mathlib.Core.Bool.{Bool, true, false}
use mathlib.Core.List.{List, [], ◌∷◌}
use mathlib.Core.Option.{none}
use Prim.Native.Nat.{ℕ, zero, suc, ◌<◌, ◌≤◌}
use native.Mathlib.Omega.{arith}
use lib.ListN.{length, get_or}
use borrow.Author.Tests.{leb-true, le-leb}
use Rattle.laws.proofs.Splits.{by-test, not-both}
use Rattle.desk.specs.declared.Key.{Key}
use Rattle.desk.specs.declared.Row.{Row}
use Rattle.desk.specs.Rows.{same_key, not_after, or_else, some_if, last_row}
use Rattle.batches.specs.Sorted.{is_sorted}
use Rattle.desk.specs.declared.Fault.{Fault}
use Rattle.desk.specs.BatchFound.{Refused as NotFound}
use Rattle.wire.specs.Shape.{Shape}
use Rattle.desk.specs.Messages.{rows_of, Part}
use Rattle.desk.specs.Batch.{Or, so, fault, after, tabled, Parts, opened, found_in, finds_last, found_answer, batch_last}
use Rattle.batches.specs.Search.{key_not_after, no_row, Turns, row_before, TurnsAtLast, SearchedIsLast, SearchedRefuses}
use Rattle.batches.proofs.Order.{same_key_lem, key-itself, by_before, before_same, before-trans, before-both, not-after-trans, not-after-itself, tail-sorted, next-after, key_of, sort_sorted}
use Rattle.batches.proofs.Checks.{passes_of}

-- ---- keys

row-key : (r x : Row) (k : Key) → not_after r x ≡ true → key_not_after x.key k ≡ true → key_not_after r.key k ≡ true
unfolding not_after key_not_after
row-key r x k =
    before-trans r.key.store x.key.store k.store _ _ _
    (λ h l. by_before r.key.product x.key.product _ h (λ less. le-leb _ _ (le_of less (leb-true x.key.product k.product l))) (λ e _. le-leb _ _ (eq_of e (leb-true x.key.product k.product l))))
  where
    le_of : {a b c : ℕ} → a < b → b ≤ c → a ≤ c
    le_of h l = omega arith

    eq_of : {a b c : ℕ} → a ≡ b → b ≤ c → a ≤ c
    eq_of h l = omega arith

itself-not-after : (k : Key) → key_not_after k k ≡ true
unfolding key_not_after
itself-not-after k = before_same k.store k.store _ refl (le-leb k.product k.product (omega arith))

keys-both : (a b : Key) → key_not_after a b ≡ true → key_not_after b a ≡ true → a ≡ b
unfolding key_not_after
keys-both a b e f =
    before-both a.store b.store _ _ e f (λ s t u. key_of a b s (le_both (leb-true a.product b.product t) (leb-true b.product a.product u)))
  where
    le_both : {x y : ℕ} → x ≤ y → y ≤ x → x ≡ y
    le_both h k = omega arith

other_key : (k : Key) (r : Row) → key_not_after r.key k ≡ false → same_key k r.key ≡ false
other_key k r e = by-test (same_key k r.key) (λ q. not-both (rw (same_key_lem k r.key q) (itself-not-after r.key)) e) (λ q. q)

-- ---- rows

-- where the first row is after the key, all are
none_after : (k : Key) (r : Row) (rs : List Row) → is_sorted (r ∷ rs) ≡ true → key_not_after r.key k ≡ false → last_row k (r ∷ rs) ≡ none
unfolding last_row or_else some_if
none_after k r [] s e = rw (other_key k r e)
none_after k r (x ∷ xs) s e = rw (none_after k x xs (tail-sorted r (x ∷ xs) s) later, other_key k r e)
  where
    later : key_not_after x.key k ≡ false
    later = by-test (key_not_after x.key k) (λ q. not-both (row-key r x k (next-after r x xs s) q) e) (λ q. q)

-- the first row is not after any
first-before : (r : Row) (rs : List Row) (j : ℕ) → is_sorted (r ∷ rs) ≡ true → j < length (r ∷ rs) → not_after r (get_or (r ∷ rs) j no_row) ≡ true
first-before r rs zero s l = not-after-itself r
first-before r [] (suc j) s l = absurd (omega arith)
first-before r (x ∷ xs) (suc j) s l = not-after-trans r x _ (next-after r x xs s) (first-before x xs j (tail-sorted r (x ∷ xs) s) (omega arith))

-- the first row counts only if it is alone
one-row : (k : Key) (r : Row) (rs : List Row) → last_row k rs ≡ none → row_before k (r ∷ rs) 1 ≡ last_row k (r ∷ rs)
unfolding row_before last_row or_else
one-row k r rs e = rw e

more_rows : (k : Key) (r : Row) (rs : List Row) (j : ℕ) → (same_key k r.key ≡ true → same_key k (get_or rs j no_row).key ≡ true) → row_before k rs (suc j) ≡ last_row k rs
    → row_before k (r ∷ rs) (suc (suc j)) ≡ last_row k (r ∷ rs)
unfolding row_before last_row
more_rows k r rs j h e = rw (← e) (go (same_key k r.key) (same_key k (get_or rs j no_row).key) h)
  where
    go : (s t : Bool) → (s ≡ true → t ≡ true) → some_if t (get_or rs j no_row).offset ≡ or_else (some_if t (get_or rs j no_row).offset) (some_if s r.offset)
    go true true h = unfold or_else some_if in refl
    go true false h = not-both (h refl) refl
    go false true h = unfold or_else some_if in refl
    go false false h = unfold or_else some_if in refl

same-behind : (k : Key) (r x : Row) → not_after r x ≡ true → key_not_after x.key k ≡ true → same_key k r.key ≡ true → same_key k x.key ≡ true
same-behind k r x n b q =
    let e : k ≡ r.key = same_key_lem k r.key q in
    let f : r.key ≡ x.key = keys-both r.key x.key (row-key r x x.key n (itself-not-after x.key)) (rw e at b) in
    rw (e, f) (key-itself x.key)

turns-behind : (k : Key) (r : Row) (rs : List Row) (j : ℕ) → Turns k (r ∷ rs) (suc (suc j)) → Turns k rs (suc j)
turns-behind k r rs j t = record { inside = omega (arith, t.inside); before = λ i e. t.before (suc i) (ap suc e); behind = λ l. t.behind (omega arith) }

pub turns-at-last : TurnsAtLast
turns-at-last k [] zero s t = unfold row_before last_row in refl
turns-at-last k [] (suc u) s t = absurd (omega (arith, t.inside))
turns-at-last k (r ∷ rs) zero s t = unfold row_before in sym (none_after k r rs s (t.behind (omega arith)))
turns-at-last k (r ∷ []) (suc zero) s t = one-row k r [] (unfold last_row in refl)
turns-at-last k (r ∷ x ∷ xs) (suc zero) s t = one-row k r (x ∷ xs) (none_after k x xs (tail-sorted r (x ∷ xs) s) (t.behind (omega arith)))
turns-at-last k (r ∷ rs) (suc (suc j)) s t =
    more_rows k r rs j (same-behind k r (get_or rs j no_row) (first-before r rs (suc j) s (omega (arith, t.inside))) (t.before (suc j) refl))
    (turns-at-last k rs (suc j) (tail-sorted r rs s) (turns-behind k r rs j t))

-- ---- the call

pub searched-is-last : SearchedIsLast
unfolding batch_last finds_last after
searched-is-last table batch k answer e x =
    let p = passes_of e in
    x.said
    ∙ rw (p.has_shape, p.has_parts, turns-at-last k p.parts.rows x.u (rw p.rows (sort_sorted (rows_of 0 p.messages))) (x.turns p.shape p.parts p.has_shape p.has_parts))

-- what is refused before the rows are looked at
refused-before : (x : Or Shape) (f : Shape → Or Parts) (g : Parts → Or Part) (e : Fault) → after x f ≡ fault e → found_answer (after x (λ t. after (f t) g)) ≡ NotFound e
unfolding after
refused-before (fault r) f g e q = unfold found_answer in ap NotFound (cc)
refused-before (so t) f g e q = go (f t) q
  where
    go : (y : Or Parts) → y ≡ fault e → found_answer (after y g) ≡ NotFound e
    go y q = unfold after found_answer in rw q

pub searched-refuses : SearchedRefuses
unfolding batch_last finds_last
searched-refuses table batch k answer e q x = (
  x.said ∙ refused-before (tabled table) (λ t. opened t batch) (λ b. found_in b (row_before k b.rows x.u)) e q,
  refused-before (tabled table) (λ t. opened t batch) (λ b. found_in b (last_row k b.rows)) e q,
)
