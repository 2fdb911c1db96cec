-- In sorted rows the last row of a key is the one whose next row has another key, or that has none behind it.
-- Assumes nothing.
use mathlib.Core.Path.{◌≡◌, refl, sym, ap, ◌∙◌, subst}
use mathlib.Core.Bool.{Bool, true, false, not}
use mathlib.Core.List.{List, [], ◌∷◌}
use mathlib.Core.Option.{Option, none, some}
use mathlib.Core.Logic.{◌⊎◌, inl, inr, ⊎_elim}
use Prim.Native.Nat.{ℕ, suc, ◌+◌, ◌-◌, ◌*◌, ◌/◌, ◌≤◌, ◌<◌}
use native.Mathlib.Nat.{sub-zero}
use native.Mathlib.Omega.{arith}
use lib.ListN.{length, drop, replicate}
use lib.Seq.{drop-drop}
use borrow.Author.Tests.{eq-eqb, not-true}
use Rattle.wire.specs.Tests.{both}
use Rattle.laws.proofs.Splits.{by-test, not-both}
use Rattle.desk.specs.declared.Key.{Key}
use Rattle.desk.specs.declared.Row.{Row}
use Rattle.desk.specs.Rows.{same_key, not_after, or_else, some_if, last_row, rows_at}
use Rattle.batches.specs.Sorted.{is_sorted, tally}
use Rattle.batches.proofs.Order.{same_key_lem, key-itself, some-itself, tail-sorted, next-after, first-least, by_before}
use Rattle.batches.proofs.Found.{tally-behind}
use Rattle.bits.specs.Marks.{marked, marking}
use Rattle.bits.proofs.Bits.{marking-it, marking-keeps, marking-only, length-marking, cleared}
use Rattle.row.specs.Ranks.{row_count, rows_in, Loaded}
use Rattle.keeping.specs.Lasts.{LastAt, Lasts, InWindow, MarksIf}

-- ---- the last row of a key

-- a last row is among the rows
pub last-occurs : (k : Key) (rows : List Row) (o : ℕ) → last_row k rows ≡ some o → 0 < tally (record { key = k; offset = o }) rows
unfolding last_row
last-occurs k [] o e = let z : ◌≡◌ {A = ℕ} 0 1 = cc in absurd (omega arith)
last-occurs k (r ∷ rs) o e = go (last_row k rs) refl e (λ f. last-occurs k rs o f)
  where
    own : same_key k r.key ≡ true → r.offset ≡ o → 0 < tally (record { key = k; offset = o }) (r ∷ rs)
    own q p = rw (← p, same_key_lem k r.key q) (some-itself r rs)

    first : (t : Bool) → same_key k r.key ≡ t → some_if t r.offset ≡ some o → 0 < tally (record { key = k; offset = o }) (r ∷ rs)
    first true q e = unfold some_if in own q (cc)
    first false q e = unfold some_if in (let z : ◌≡◌ {A = ℕ} 0 1 = cc in absurd (omega arith))

    go : (x : Option ℕ) → last_row k rs ≡ x → or_else x (some_if (same_key k r.key) r.offset) ≡ some o → (last_row k rs ≡ some o → 0 < tally (record { key = k; offset = o }) rs)
        → 0 < tally (record { key = k; offset = o }) (r ∷ rs)
    go (some p) q e ih = unfold or_else in tally-behind (record { key = k; offset = o }) r rs (ih (q ∙ e))
    go none q e ih = unfold or_else in first (same_key k r.key) refl e

last_cons : (k : Key) (r : Row) (rs : List Row) → last_row k (r ∷ rs) ≡ or_else (last_row k rs) (some_if (same_key k r.key) r.offset)
unfolding last_row
last_cons k r rs = refl

last_up : (k : Key) (r : Row) (rs : List Row) {o : ℕ} → last_row k rs ≡ some o → last_row k (r ∷ rs) ≡ some o
last_up k r rs e = last_cons k r rs ∙ ap (λ x. or_else x (some_if (same_key k r.key) r.offset)) e ∙ (unfold or_else in refl)

-- it is the first row's offset, or it stands behind
last-down : (k : Key) (r : Row) (rs : List Row) (o : ℕ) → last_row k (r ∷ rs) ≡ some o → ((same_key k r.key ≡ true) × (r.offset ≡ o)) ⊎ (last_row k rs ≡ some o)
last-down k r rs o e = go (last_row k rs) refl (sym (last_cons k r rs) ∙ e)
  where
    first : (t : Bool) → same_key k r.key ≡ t → some_if t r.offset ≡ some o → (same_key k r.key ≡ true) × (r.offset ≡ o)
    first true q z = unfold some_if in (q, cc)
    first false q z = unfold some_if in (let y : ◌≡◌ {A = ℕ} 0 1 = cc in absurd (omega arith))

    go : (x : Option ℕ) → last_row k rs ≡ x → or_else x (some_if (same_key k r.key) r.offset) ≡ some o → ((same_key k r.key ≡ true) × (r.offset ≡ o)) ⊎ (last_row k rs ≡ some o)
    go (some p) q z = unfold or_else in inr (q ∙ z)
    go none q z = unfold or_else in inl (first (same_key k r.key) refl z)

-- a key that a row has has a last row
some-last : (k : Key) (r : Row) (rs : List Row) → same_key k r.key ≡ true → last_row k (r ∷ rs) ≡ none → ⊥
some-last k r rs q e = go (last_row k rs) (sym (last_cons k r rs) ∙ e)
  where
    go : (x : Option ℕ) → or_else x (some_if (same_key k r.key) r.offset) ≡ none → ⊥
    go (some p) z = unfold or_else in (let y : ◌≡◌ {A = ℕ} 0 1 = cc in omega arith)
    go none z = unfold or_else some_if in (let w : some r.offset ≡ none = sym (ap (λ t. some_if t r.offset) q) ∙ z in let y : ◌≡◌ {A = ℕ} 0 1 = cc in omega arith)

-- ---- a row whose next has the same key is not its last

goes_on : (k : Key) (r n : Row) (rs : List Row) (o : ℕ) → same_key r.key n.key ≡ true → last_row k (r ∷ n ∷ rs) ≡ some o → last_row k (n ∷ rs) ≡ some o
goes_on k r n rs o q e = go (last_row k (n ∷ rs)) refl
  where
    here : same_key k r.key ≡ true → same_key k n.key ≡ true
    here t = rw (same_key_lem k r.key t) q

    go : (x : Option ℕ) → last_row k (n ∷ rs) ≡ x → last_row k (n ∷ rs) ≡ some o
    go (some p) z = z ∙ sym (last_up k r (n ∷ rs) z) ∙ e
    go none z = ⊎_elim (λ w. absurd (some-last k n rs (here w.0) z)) (λ w. w) (last-down k r (n ∷ rs) o e)

-- ---- in sorted rows, one whose next has another key is

between : (r n x : Row) → not_after r n ≡ true → not_after n x ≡ true → r.key ≡ x.key → same_key r.key n.key ≡ true
unfolding not_after same_key both
between r n x a b e =
    by_before r.key.store n.key.store _ a
    (λ lo. by_before n.key.store x.key.store _ b (λ hi. absurd (omega (arith, store))) (λ q t. absurd (omega (arith, store))))
    (λ q t. by_before n.key.store x.key.store _ b (λ hi. absurd (omega (arith, store)))
    (λ p u. by_before r.key.product n.key.product _ t
    (λ lo. by_before n.key.product x.key.product _ u (λ hi. absurd (omega (arith, product))) (λ i v. absurd (omega (arith, product))))
    (λ i v. rw (eq-eqb r.key.store n.key.store q, eq-eqb r.key.product n.key.product i))))
  where
    store : r.key.store ≡ x.key.store
    store = ap (λ (k : Key). k.store) e

    product : r.key.product ≡ x.key.product
    product = ap (λ (k : Key). k.product) e

none-on : (r n : Row) (rs : List Row) → is_sorted (r ∷ n ∷ rs) ≡ true → same_key r.key n.key ≡ false → (x : Option ℕ) → last_row r.key (n ∷ rs) ≡ x → x ≡ none
none-on r n rs s q none e = refl
none-on r n rs s q (some o) e =
    not-both
    (between r n (record { key = r.key; offset = o }) (next-after r n rs s) (first-least rs n (record { key = r.key; offset = o }) (tail-sorted r (n ∷ rs) s) (last-occurs r.key (n ∷ rs) o e)) refl)
    q

own-last : (r : Row) (rs : List Row) → last_row r.key rs ≡ none → last_row r.key (r ∷ rs) ≡ some r.offset
own-last r rs e = last_cons r.key r rs ∙ ap (λ x. or_else x (some_if (same_key r.key r.key) r.offset)) e ∙ (unfold or_else some_if in rw (key-itself r.key))

ends-key : (r n : Row) (rs : List Row) → is_sorted (r ∷ n ∷ rs) ≡ true → same_key r.key n.key ≡ false → last_row r.key (r ∷ n ∷ rs) ≡ some r.offset
ends-key r n rs s q = own-last r (n ∷ rs) (none-on r n rs s q (last_row r.key (n ∷ rs)) refl)

-- ---- one mark more

pub mark-not : {base offset : ℕ} {area : List ℕ} {ends : Bool} → ends ≡ false → MarksIf ends base offset area area
mark-not e = record { only = λ p m. inl m; keeps = λ p m. m; it = λ t. not-both t e; long = refl }

pub mark-before : {base offset : ℕ} {area : List ℕ} {ends : Bool} → offset < base → MarksIf ends base offset area area
mark-before h = record { only = λ p m. inl m; keeps = λ p m. m; it = λ t l. absurd (omega arith); long = refl }

pub mark-beyond : {base offset : ℕ} {area : List ℕ} {ends : Bool} → length area ≤ (offset - base) / 8 → MarksIf ends base offset area area
mark-beyond h = record { only = λ p m. inl m; keeps = λ p m. m; it = λ t l b. absurd (omega arith); long = refl }

pub mark-it : {base offset : ℕ} {area after : List ℕ} {ends : Bool} → ends ≡ true → base ≤ offset → (offset - base) / 8 < length area → after ≡ marking area (offset - base)
    → MarksIf ends base offset area after
mark-it {base} {offset} {area} {after} {ends} t l b e =
    subst (MarksIf ends base offset area) (sym e)
    record {
      only = λ p m. ⊎_elim (λ q. inr (t, omega arith)) (λ q. inl q) (marking-only area (offset - base) b p m);
      keeps = λ p m. marking-keeps area (offset - base) b p m;
      it = λ _ _ _. marking-it area (offset - base) b;
      long = length-marking area (offset - base);
    }

-- ---- rows gone through from the front

-- the rows from the j-th on
unfoldable pub left : List ℕ → ℕ → List Row
left s j = rows_at (row_count s - j) (drop (16 * j) s)

left-all : (s : List ℕ) → left s 0 ≡ rows_in s
unfolding left rows_in
left-all s = rw (sub-zero (row_count s))

left-none : (s : List ℕ) (j : ℕ) → row_count s ≤ j → left s j ≡ []
unfolding left rows_at
left-none s j h = let e : row_count s - j ≡ 0 = omega arith in rw e

left-on : (s : List ℕ) (j : ℕ) {r : Row} → j < row_count s → Loaded s j r → left s j ≡ r ∷ left s (suc j)
unfolding left rows_at
left-on s j {r} h l =
    let m : row_count s - j ≡ suc (row_count s - suc j) = omega arith in
    let k : 16 * j + 16 ≡ 16 * suc j = omega arith in
    rw (m, drop-drop 16 (16 * j) s, k, ← l.row)

-- the marks so far, and the rows from the last one on, whose marks are still to come
pub record Lasting (s : List ℕ) (base : ℕ) (area : List ℕ) (last : Row) (i : ℕ) : Type 0 where
  pub j : ℕ
  pub next : suc j ≡ i
  pub upto : i ≤ row_count s
  pub at : Loaded s j last
  pub sorted : is_sorted (left s j) ≡ true
  pub up : (k : Key) (o : ℕ) → last_row k (left s j) ≡ some o → last_row k (rows_in s) ≡ some o
  pub only : (p : ℕ) → marked area p ≡ true → LastAt (rows_in s) (base + p)
  pub all : (k : Key) (o : ℕ) → last_row k (rows_in s) ≡ some o → base ≤ o → (o - base) / 8 < length area → (marked area (o - base) ≡ true) ⊎ (last_row k (left s j) ≡ some o)

no_last : (k : Key) (o : ℕ) {X : Type 0} → last_row k [] ≡ some o → X
unfolding last_row
no_last k o e = let y : ◌≡◌ {A = ℕ} 0 1 = cc in absurd (omega arith)

none-marked : (base size : ℕ) (area : List ℕ) (rows : List Row) → area ≡ replicate size 0 → (p : ℕ) → marked area p ≡ true → LastAt rows (base + p)
none-marked base size area rows e p m = not-both m (ap (λ a. marked a p) e ∙ cleared size p)

pub no-rows : (s : List ℕ) {area : List ℕ} {base : ℕ} (size : ℕ) → row_count s ≡ 0 → area ≡ replicate size 0 → Lasts (rows_in s) base area
no-rows s {area} {base} size z e =
    record { only = none-marked base size area (rows_in s) e; all = λ k o q l b. no_last k o (subst (λ rs. last_row k rs ≡ some o) (sym (left-all s) ∙ left-none s 0 (omega arith)) q) }

pub lasting-begin : {s area : List ℕ} {base : ℕ} {last : Row} (size : ℕ) → (row_count s ≡ 0 → ⊥) → is_sorted (rows_in s) ≡ true → Loaded s 0 last → area ≡ replicate size 0 → Lasting s base area last 1
lasting-begin {s} {area} {base} size ne o l e =
    record {
      j = 0;
      next = refl;
      upto = omega (arith, ne);
      at = l;
      sorted = ap is_sorted (left-all s) ∙ o;
      up = λ k o q. ap (last_row k) (sym (left-all s)) ∙ q;
      only = none-marked base size area (rows_in s) e;
      all = λ k o q l b. inr (ap (last_row k) (left-all s) ∙ q);
    }

module _ {s area : List ℕ} {base i : ℕ} {last : Row} (w : Lasting s base area last i) where
  here : left s w.j ≡ last ∷ left s i
  here = left-on s w.j (omega (arith, w.next, w.upto)) w.at ∙ ap (λ i. last ∷ left s i) w.next

  pub lasting-next : {after : List ℕ} {next : Row} {t : Bool} → i < row_count s → Loaded s i next → t ≡ same_key last.key next.key → MarksIf (not t) base last.offset area after → Lasting s base after next (i + 1)
  lasting-next {after} {next} {t} h l q m =
      record {
        j = i;
        next = omega arith;
        upto = omega arith;
        at = l;
        sorted = tail-sorted last (left s i) (ap is_sorted (sym here) ∙ w.sorted);
        up = λ k o e. w.up k o (ap (last_row k) here ∙ last_up k last (left s i) e);
        only = λ p x. ⊎_elim (λ old. w.only p old) (λ new. ends p (not-true t new.0) new.1) (m.only p x);
        all = λ k o e lo b. ⊎_elim (λ x. inl (m.keeps (o - base) x)) (λ x. rest k o lo b (sym (ap (last_row k) here) ∙ x)) (w.all k o e lo (omega (arith, m.long)));
      }
    where
      two : left s w.j ≡ last ∷ next ∷ left s (suc i)
      two = here ∙ ap (λ rs. last ∷ rs) (left-on s i h l)

      ends : (p : ℕ) → t ≡ false → base + p ≡ last.offset → LastAt (rows_in s) (base + p)
      ends p f e =
          record {
            key = last.key;
            is = w.up last.key (base + p)
                (ap (last_row last.key) two ∙ ends-key last next (left s (suc i)) (ap is_sorted (sym two) ∙ w.sorted) (sym q ∙ f) ∙ ap some (sym e));
          }

      rest : (k : Key) (o : ℕ) → base ≤ o → (o - base) / 8 < length after → last_row k (last ∷ left s i) ≡ some o → (marked after (o - base) ≡ true) ⊎ (last_row k (left s i) ≡ some o)
      rest k o lo b e =
          by-test t
          (λ y. inr (ap (last_row k) (left-on s i h l) ∙ goes_on k last next (left s (suc i)) o (sym q ∙ y) (sym (ap (λ rs. last_row k (last ∷ rs)) (left-on s i h l)) ∙ e)))
          (λ f. ⊎_elim (λ x. inl (subst (λ o. marked after (o - base) ≡ true) x.1 (m.it (ap not f) (omega (arith, x.1)) (inside o x.1 b)))) (λ x. inr x) (last-down k last (left s i) o e))
        where
          inside : (o : ℕ) → last.offset ≡ o → (o - base) / 8 < length after → (last.offset - base) / 8 < length area
          inside o z b = rw z (omega (arith, m.long))

  pub lasting-end : {after : List ℕ} → row_count s ≤ i → MarksIf true base last.offset area after → Lasts (rows_in s) base after
  lasting-end {after} h m =
      record {
        only = λ p x. ⊎_elim (λ old. w.only p old) (λ new. record { key = last.key; is = w.up last.key (base + p) (ap (last_row last.key) one ∙ own-last last [] (unfold last_row in refl) ∙ ap some (sym new.1)) }) (m.only p x);
        all = λ k o e lo b. ⊎_elim (λ x. m.keeps (o - base) x) (λ x. rest k o lo b (sym (ap (last_row k) one) ∙ x)) (w.all k o e lo (omega (arith, m.long)));
      }
    where
      one : left s w.j ≡ last ∷ []
      one = here ∙ ap (λ rs. last ∷ rs) (left-none s i h)

      rest : (k : Key) (o : ℕ) → base ≤ o → (o - base) / 8 < length after → last_row k (last ∷ []) ≡ some o → marked after (o - base) ≡ true
      rest k o lo b e =
          ⊎_elim (λ x. subst (λ o. marked after (o - base) ≡ true) x.1 (m.it refl (omega (arith, x.1)) (rw x.1 (omega (arith, m.long))))) (λ x. no_last k o x)
          (last-down k last [] o e)

-- ---- the window that a place is in

pub in_window : {rows : List Row} {area : List ℕ} {base at : ℕ} → Lasts rows base area → base ≤ at → (at - base) / 8 < length area → InWindow rows at area base
in_window l f i = record { lasts = l; from = f; inside = i }

pub new-window : {rows : List Row} {area : List ℕ} {at : ℕ} → Lasts rows at area → 0 < length area → InWindow rows at area at
new-window {at} l h = record { lasts = l; from = omega arith; inside = omega arith }
