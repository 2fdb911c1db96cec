-- What a batch that has been taken apart is known to be.
-- Assumes nothing.
use mathlib.Core.Path.{◌≡◌, refl, sym, ap}
use mathlib.Core.Bool.{Bool, true, false}
use mathlib.Core.List.{List, [], ◌∷◌, ◌++◌}
use Prim.Native.Nat.{ℕ, zero, suc, ◌+◌, ◌-◌, ◌*◌, ◌^◌, ◌<◌, ◌≤◌}
use native.Mathlib.Nat.{pow-suc}
use native.Mathlib.Omega.{arith}
use lib.ListN.{length, take, drop, take-append-drop}
use lib.Seq.{length-take-le}
use lib.Dec.{ltb, leb, eqb}
use borrow.Author.Tests.{leb-true, eqb-true, lt-ltb, ne_eqb}
use Rattle.desk.specs.declared.Fault.{Fault}
use Rattle.wire.specs.Tests.{pick, given, both}
use Rattle.wire.specs.Shape.{Shape}
use Rattle.wire.specs.Numbers.{little}
use Rattle.laws.specs.Range.{AreBytes}
use Rattle.laws.proofs.Splits.{both_yes, both_left, both_right}
use Rattle.laws.proofs.Bytes.{below-drop}
use Rattle.desk.specs.declared.Row.{Row}
use Rattle.desk.specs.Rows.{same_key, not_after, insert, sort, or_else, some_if, last_row, number_at, row_at, rows_at}
use Rattle.batches.specs.Laws.{LargeStore}
use Rattle.desk.specs.Messages.{Keyed, is_keyed}
use Rattle.desk.specs.Batch.{Or, so, fault, keyed, Parts, good_trailer, parts_at, open_at, opened, offsets_fit}
use Rattle.batches.proofs.Checks.{not_so, of-after, of-keyed}

-- ---- numbers of bytes

taken-lt : (n : ℕ) (s : List ℕ) → AreBytes s → little (take n s) < 256 ^ n
unfolding little
taken-lt zero s h = omega arith
taken-lt (suc n) [] h = let ih = taken-lt n [] h in rw (pow-suc 256 n) (omega arith)
taken-lt (suc n) (b ∷ s) h = let ih = taken-lt n s (λ i. h (suc i)) in rw (pow-suc 256 n) (omega (arith, h 0))

pub number_lt : (n at : ℕ) (s : List ℕ) → AreBytes s → number_at n at s < 256 ^ n
unfolding number_at
number_lt n at s h = taken-lt n (drop at s) (below-drop 256 at s h)

pub offsets-fit : (n : ℕ) (s : List ℕ) → AreBytes s → offsets_fit (rows_at n s) ≡ true
unfolding rows_at row_at offsets_fit
offsets-fit zero s h = refl
offsets-fit (suc n) s h = both_yes _ _ (lt-ltb (number_at 4 12 s) (2 ^ 32) (number_lt 4 12 s h)) (offsets-fit n (drop 16 s) (below-drop 256 16 s h))

pub length-rows_at : (n : ℕ) (s : List ℕ) → length (rows_at n s) ≡ n
unfolding rows_at
length-rows_at zero s = refl
length-rows_at (suc n) s = ap suc (length-rows_at n (drop 16 s))

-- a store number that no u32 has is in no row
pub large-store : LargeStore
unfolding rows_at last_row or_else some_if
large-store k zero s h l = refl
large-store k (suc n) s h l = rw (large-store k n (drop 16 s) (below-drop 256 16 s h) l, other)
  where
    other : same_key k (row_at s).key ≡ false
    other = unfold same_key row_at both in rw (ne_eqb k.store (number_at 4 0 s) (λ e. omega (arith, number_lt 4 0 s h)))

-- ---- offsets of rows that were sorted

insert-offsets : (r : Row) (xs : List Row) → offsets_fit (insert r xs) ≡ true → offsets_fit (r ∷ xs) ≡ true
unfolding insert offsets_fit
insert-offsets r [] e = e
insert-offsets r (x ∷ xs) e = go (not_after r x) e (λ f. insert-offsets r xs f)
  where
    go : (t : Bool) → offsets_fit (pick t (r ∷ x ∷ xs) (x ∷ insert r xs)) ≡ true → (offsets_fit (insert r xs) ≡ true → offsets_fit (r ∷ xs) ≡ true) → offsets_fit (r ∷ x ∷ xs) ≡ true
    go true e ih = unfold pick in e
    go false e ih = unfold pick offsets_fit in
        both_yes _ _ (both_left (ltb r.offset (2 ^ 32)) (offsets_fit xs) (ih (both_right (ltb x.offset (2 ^ 32)) (offsets_fit (insert r xs)) e)))
        (both_yes (ltb x.offset (2 ^ 32)) (offsets_fit xs) (both_left (ltb x.offset (2 ^ 32)) (offsets_fit (insert r xs)) e) (both_right (ltb r.offset (2 ^ 32)) (offsets_fit xs) (ih (both_right (ltb x.offset (2 ^ 32)) (offsets_fit (insert r xs)) e))))

pub sort-offsets : (xs : List Row) → offsets_fit (sort xs) ≡ true → offsets_fit xs ≡ true
unfolding sort
sort-offsets [] e = e
sort-offsets (x ∷ xs) e = next_row (insert-offsets x (sort xs) e) (λ f. sort-offsets xs f)
  where
    next_row : offsets_fit (x ∷ sort xs) ≡ true → (offsets_fit (sort xs) ≡ true → offsets_fit xs ≡ true) → offsets_fit (x ∷ xs) ≡ true
    next_row e ih = unfold offsets_fit in both_yes (ltb x.offset (2 ^ 32)) (offsets_fit xs) (both_left (ltb x.offset (2 ^ 32)) (offsets_fit (sort xs)) e) (ih (both_right (ltb x.offset (2 ^ 32)) (offsets_fit (sort xs)) e))

-- ---- the parts

pub record Opened (t : Shape) (batch : List ℕ) (b : Parts) : Type 0 where
  pub fits : is_keyed b.keys ≡ true
  pub shape : b.keys.shape ≡ t
  pub tail : List ℕ
  pub whole : b.front ++ tail ≡ batch
  pub size : length batch ≡ length b.front + (16 * length b.rows + 12)
  pub few : AreBytes batch → 16 * length b.rows < 2 ^ 32
  pub offsets : AreBytes batch → offsets_fit b.rows ≡ true

pub of-given {ℓ} : {X : Type ℓ} {A : Type 0} (t : Bool) (f : Unit {0} → Or A) (r : Fault) {y : A} → given t f (fault r) ≡ so y → (t ≡ true → f tt ≡ so y → X) → X
unfolding given
of-given true f r e g = g refl e
of-given false f r e g = not_so e

parts-facts : (k : Keyed) (batch : List ℕ) (end count distance : ℕ) → is_keyed k ≡ true → end + 12 ≡ length batch → distance ≡ 16 * count → distance ≤ end → (AreBytes batch → distance < 2 ^ 32)
    → Opened k.shape batch (parts_at batch (end - distance) count k)
unfolding parts_at
parts-facts k batch end count distance ok e d l few =
    let at = end - distance in
    let rows : length (rows_at count (drop at batch)) ≡ count = length-rows_at count (drop at batch) in
    let front : length (take at batch) ≡ at = length-take-le at batch (omega arith) in
    record {
      fits = ok;
      shape = refl;
      tail = drop at batch;
      whole = take-append-drop at batch;
      size = rw (front, rows) (omega arith);
      few = λ h. let f = few h in rw rows (omega arith);
      offsets = λ h. offsets-fit count (drop at batch) (below-drop 256 at batch h);
    }

pub opened-facts : (t : Shape) (batch : List ℕ) (b : Parts) → opened t batch ≡ so b → Opened t batch b
unfolding opened
opened-facts t batch b e =
    of-given (leb 12 (length batch)) _ _ e (λ l f. at (length batch - 12) (let h = leb-true 12 (length batch) l in omega arith) f)
  where
    at : (end : ℕ) → end + 12 ≡ length batch → open_at t batch end ≡ so b → Opened t batch b
    at end n f =
        unfold open_at good_trailer in
        of-after (keyed (record { shape = t; store = number_at 2 (end + 8) batch; product = number_at 2 (end + 10) batch })) _ f
        (λ k q g. of-keyed (record { shape = t; store = number_at 2 (end + 8) batch; product = number_at 2 (end + 10) batch }) q
        (λ ok same. of-given (both (eqb (number_at 4 (end + 4) batch) (16 * number_at 4 end batch)) (leb (number_at 4 (end + 4) batch) end)) _ _ g
        (λ good h. finish k (ap (λ k. k.shape) (sym same)) (rw same at ok) (eqb-true (number_at 4 (end + 4) batch) (16 * number_at 4 end batch) (both_left _ _ good)) (leb-true (number_at 4 (end + 4) batch) end (both_right _ _ good)) (cc))))
      where
        finish : (k : Keyed) → k.shape ≡ t → is_keyed k ≡ true → number_at 4 (end + 4) batch ≡ 16 * number_at 4 end batch → number_at 4 (end + 4) batch ≤ end
            → parts_at batch (end - number_at 4 (end + 4) batch) (number_at 4 end batch) k ≡ b → Opened t batch b
        finish k s ok d l q = rw (← q, ← s) (parts-facts k batch end (number_at 4 end batch) (number_at 4 (end + 4) batch) ok n d l (λ h. number_lt 4 (end + 4) batch h))
