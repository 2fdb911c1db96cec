-- A batch's bytes and back: its rows, its trailer, and so its parts.
-- Assumes nothing.
use mathlib.Core.Path.{◌≡◌, refl, sym, ap, ◌∙◌}
use mathlib.Core.Bool.{Bool, true, false}
use mathlib.Core.List.{List, [], ◌∷◌, ◌++◌, append_assoc, append-nil}
use Prim.Native.Nat.{ℕ, suc, ◌+◌, ◌-◌, ◌*◌, ◌^◌, ◌<◌, ◌≤◌}
use native.Mathlib.Nat.{mod-eq_of_lt}
use native.Mathlib.Omega.{arith}
use lib.ListN.{length, take, drop, length-append}
use lib.Seq.{take_at, drop_at, take-append_seam, drop-append_seam}
use borrow.Author.Tests.{le-leb, eq-eqb, ltb-true}
use Rattle.wire.specs.Tests.{pick, given, both}
use Rattle.wire.specs.Numbers.{little, little_bytes}
use Rattle.laws.proofs.Splits.{both_left, both_right}
use Rattle.laws.proofs.Numbers.{length-little_bytes, little-back}
use Rattle.desk.specs.declared.Row.{Row}
use Rattle.desk.specs.Rows.{not_after, insert, sort, number_at, row_bytes, row_at, rows_bytes, rows_at}
use Rattle.batches.specs.Fit.{RowFits, RowsFit, none_left, each}
use Rattle.desk.specs.Messages.{Keyed, is_keyed, Message, rows_of}
use Rattle.desk.specs.Batch.{so, after, keyed, trailer, good_trailer, parts_at, open_at, opened}

-- ---- numbers

pub little-whole : (k a : ℕ) → a < 256 ^ k → little (little_bytes k a) ≡ a
little-whole k a h = little-back k a ∙ mod-eq_of_lt h

pub number-at : (n at a : ℕ) (front rest : List ℕ) → length front ≡ at → a < 256 ^ n → number_at n at (front ++ (little_bytes n a ++ rest)) ≡ a
unfolding number_at
number-at n at a front rest e h =
    rw (drop_at front (little_bytes n a ++ rest) at e, take_at (little_bytes n a) rest n (length-little_bytes n a)) (little-whole n a h)

-- ---- rows

pub length-row : (r : Row) → length (row_bytes r) ≡ 16
unfolding row_bytes
length-row r =
    simp (length-append, length-little_bytes) refl

pub row_back : (r : Row) (rest : List ℕ) → RowFits r → row_at (row_bytes r ++ rest) ≡ r
unfolding row_at row_bytes
row_back r rest f =
    let a = little_bytes 4 r.key.store in let b = little_bytes 8 r.key.product in let c = little_bytes 4 r.offset in
    let whole : (a ++ (b ++ c)) ++ rest ≡ a ++ (b ++ (c ++ rest)) = simp append_assoc in
    let late : a ++ (b ++ (c ++ rest)) ≡ (a ++ b) ++ (c ++ rest) = simp append_assoc in
    let s : number_at 4 0 ((a ++ (b ++ c)) ++ rest) ≡ r.key.store = rw whole (number-at 4 0 r.key.store [] (b ++ (c ++ rest)) refl f.store) in
    let p : number_at 8 4 ((a ++ (b ++ c)) ++ rest) ≡ r.key.product = rw whole (number-at 8 4 r.key.product a (c ++ rest) (length-little_bytes 4 _) f.product) in
    let o : number_at 4 12 ((a ++ (b ++ c)) ++ rest) ≡ r.offset = rw (whole, late) (number-at 4 12 r.offset (a ++ b) rest (simp (length-append, length-little_bytes) refl) f.offset) in
    rw (s, p, o)

pub rows_back : (rs : List Row) (rest : List ℕ) → RowsFit rs → rows_at (length rs) (rows_bytes rs ++ rest) ≡ rs
unfolding rows_at rows_bytes
rows_back [] rest none_left = refl
rows_back (r ∷ rs) rest (each f fs) =
    rw (append_assoc (row_bytes r) (rows_bytes rs) rest, drop_at (row_bytes r) (rows_bytes rs ++ rest) 16 (length-row r), row_back r (rows_bytes rs ++ rest) f, rows_back rs rest fs)

pub length-rows : (rs : List Row) → length (rows_bytes rs) ≡ 16 * length rs
unfolding rows_bytes
length-rows [] = refl
length-rows (r ∷ rs) = length-append (row_bytes r) (rows_bytes rs) ∙ count (length-row r) (length-rows rs)
  where
    count : length (row_bytes r) ≡ 16 → length (rows_bytes rs) ≡ 16 * length rs → length (row_bytes r) + length (rows_bytes rs) ≡ 16 * length (r ∷ rs)
    count a b = omega arith

-- ---- rows that were sorted

length-insert : (r : Row) (xs : List Row) → length (insert r xs) ≡ suc (length xs)
unfolding insert
length-insert r [] = refl
length-insert r (x ∷ xs) = go (not_after r x) (length-insert r xs)
  where
    go : (t : Bool) → length (insert r xs) ≡ suc (length xs) → length (pick t (r ∷ x ∷ xs) (x ∷ insert r xs)) ≡ suc (suc (length xs))
    go true e = unfold pick in refl
    go false e = unfold pick in ap suc e

pub length-sort : (xs : List Row) → length (sort xs) ≡ length xs
unfolding sort
length-sort [] = refl
length-sort (x ∷ xs) = length-insert x (sort xs) ∙ ap suc (length-sort xs)

fit-insert : (r : Row) (xs : List Row) → RowFits r → RowsFit xs → RowsFit (insert r xs)
unfolding insert
fit-insert r [] f none_left = each f none_left
fit-insert r (x ∷ xs) f (each g gs) = go (not_after r x) (fit-insert r xs f gs)
  where
    go : (t : Bool) → RowsFit (insert r xs) → RowsFit (pick t (r ∷ x ∷ xs) (x ∷ insert r xs))
    go true ih = unfold pick in each f (each g gs)
    go false ih = unfold pick in each g ih

pub fit-sort : (xs : List Row) → RowsFit xs → RowsFit (sort xs)
unfolding sort
fit-sort [] none_left = none_left
fit-sort (x ∷ xs) (each f fs) = fit-insert x (sort xs) f (fit-sort xs fs)

pub length-rows_of : (at : ℕ) (ms : List Message) → length (rows_of at ms) ≡ length ms
unfolding rows_of
length-rows_of at [] = refl
length-rows_of at (m ∷ ms) = ap suc (length-rows_of (at + length m.bytes) ms)

-- ---- the trailer

pub length-trailer : (n : ℕ) (k : Keyed) → length (trailer n k) ≡ 12
unfolding trailer
length-trailer n k = simp (length-append, length-little_bytes) refl

record Numbers (end n : ℕ) (k : Keyed) (batch : List ℕ) : Type 0 where
  count : number_at 4 end batch ≡ n
  distance : number_at 4 (end + 4) batch ≡ 16 * n
  store : number_at 2 (end + 8) batch ≡ k.store
  product : number_at 2 (end + 10) batch ≡ k.product

record KeysFit (k : Keyed) : Type 0 where
  store : k.store < 256 ^ 2
  product : k.product < 256 ^ 2

keys-fit : (k : Keyed) → is_keyed k ≡ true → KeysFit k
unfolding is_keyed
keys-fit k e = record { store = ltb-true k.store 65536 (both_left _ _ (both_left _ _ e)); product = ltb-true k.product 65536 (both_left _ _ (both_right _ _ e)) }

trailer-back : (body : List ℕ) (n end : ℕ) (k : Keyed) → length body ≡ end → 16 * n < 256 ^ 4 → KeysFit k → Numbers end n k (body ++ trailer n k)
unfolding trailer
trailer-back body n end k e h f =
    let a = little_bytes 4 n in let b = little_bytes 4 (16 * n) in let c = little_bytes 2 k.store in let d = little_bytes 2 k.product in
    let at4 : body ++ (a ++ (b ++ (c ++ d))) ≡ (body ++ a) ++ (b ++ (c ++ d)) = simp append_assoc in
    let at8 : body ++ (a ++ (b ++ (c ++ d))) ≡ (body ++ (a ++ b)) ++ (c ++ d) = simp append_assoc in
    let at10 : body ++ (a ++ (b ++ (c ++ d))) ≡ (body ++ (a ++ (b ++ c))) ++ (d ++ []) = simp (append_assoc, append-nil) in
    record {
      count = number-at 4 end n body (b ++ (c ++ d)) e (omega arith);
      distance = rw at4 (number-at 4 (end + 4) (16 * n) (body ++ a) (c ++ d) (simp (length-append, length-little_bytes) (omega arith)) h);
      store = rw at8 (number-at 2 (end + 8) k.store (body ++ (a ++ b)) d (simp (length-append, length-little_bytes) (omega arith)) f.store);
      product = rw at10 (number-at 2 (end + 10) k.product (body ++ (a ++ (b ++ c))) [] (simp (length-append, length-little_bytes) (omega arith)) f.product);
    }

-- ---- the parts

open-back : (k : Keyed) (batch front : List ℕ) (rs : List Row) (end n rows : ℕ) → is_keyed k ≡ true → Numbers end n k batch → 16 * n ≤ end → end - 16 * n ≡ rows
    → take rows batch ≡ front → rows_at n (drop rows batch) ≡ rs → open_at k.shape batch end ≡ so (record { keys = k; front = front; rows = rs })
unfolding open_at after keyed pick given good_trailer both parts_at
open-back k batch front rs end n rows ok t l e f g =
    rw (t.store, t.product, ok, t.distance, t.count, eq-eqb (16 * n) (16 * n) refl, le-leb (16 * n) end l, e, f, g)

pub parts-back : (k : Keyed) (front : List ℕ) (rs : List Row) → is_keyed k ≡ true → 16 * length rs < 256 ^ 4 → RowsFit rs
    → opened k.shape (front ++ (rows_bytes rs ++ trailer (length rs) k)) ≡ so (record { keys = k; front = front; rows = rs })
unfolding opened given
parts-back k front rs ok h f =
    let batch = front ++ (rows_bytes rs ++ trailer (length rs) k) in
    let body = front ++ rows_bytes rs in
    let many : length body ≡ length front + 16 * length rs = length-append front (rows_bytes rs) ∙ ap (λ n. length front + n) (length-rows rs) in
    let whole : body ++ trailer (length rs) k ≡ batch = append_assoc front (rows_bytes rs) (trailer (length rs) k) in
    let size : length batch ≡ length body + 12 = ap length (sym whole) ∙ length-append body (trailer (length rs) k) ∙ ap (λ n. length body + n) (length-trailer (length rs) k) in
    let end : length batch - 12 ≡ length body = omega arith in
    let numbers : Numbers (length body) (length rs) k batch = rw whole at (trailer-back body (length rs) (length body) k refl h (keys-fit k ok)) in
    rw (le-leb 12 (length batch) (omega arith), end)
    (open-back k batch front rs (length body) (length rs) (length front) ok numbers (omega arith) (omega arith)
    (take-append_seam front (rows_bytes rs ++ trailer (length rs) k))
    (ap (rows_at (length rs)) (drop-append_seam front (rows_bytes rs ++ trailer (length rs) k)) ∙ rows_back rs (trailer (length rs) k) f))
