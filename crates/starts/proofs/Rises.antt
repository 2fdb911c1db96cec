-- Rows rise if each, as it is loaded, stands before the next.
-- Assumes nothing.
use mathlib.Core.Path.{◌≡◌, refl, sym, ap, ◌∙◌}
use mathlib.Core.Bool.{Bool, true, false, not}
use mathlib.Core.List.{List}
use Prim.Native.Nat.{ℕ, suc, ◌+◌, ◌-◌, ◌*◌, ◌/◌, ◌≤◌, ◌<◌}
use native.Mathlib.Nat.{sub-zero}
use native.Mathlib.Omega.{arith}
use lib.ListN.{length, drop}
use lib.Seq.{drop-drop}
use lib.Dec.{ltb}
use borrow.Author.Tests.{ltb-true, ltb-false, le-leb, lt-leb}
use Rattle.wire.specs.Tests.{both}
use Rattle.desk.specs.declared.Row.{Row}
use Rattle.desk.specs.Rows.{not_after, row_at, rows_at}
use Rattle.batches.specs.Sorted.{is_rising}
use Rattle.row.specs.Ranks.{row_count, rows_in, rank, Loaded}
use Rattle.row.proofs.Ranks.{after-rank}

rising-two : (m : ℕ) (t : List ℕ) → is_rising (rows_at (suc (suc m)) t) ≡ both (not (not_after (row_at (drop 16 t)) (row_at t))) (is_rising (rows_at (suc m) (drop 16 t)))
unfolding rows_at is_rising
rising-two m t = refl

rising-one : (t : List ℕ) → is_rising (rows_at 1 t) ≡ true
unfolding rows_at is_rising
rising-one t = refl

pub rising_none : (s : List ℕ) → length s / 16 ≡ 0 → true ≡ is_rising (rows_in s)
unfolding rows_in row_count rows_at is_rising
rising_none s e = rw e

-- the rows from the last one on decide, which stands in front of i
pub record Rising (s : List ℕ) (last : Row) (i : ℕ) : Type 0 where
  pub j : ℕ
  pub next : suc j ≡ i
  pub upto : i ≤ row_count s
  pub at : Loaded s j last
  pub same : is_rising (rows_at (row_count s - j) (drop (16 * j) s)) ≡ is_rising (rows_in s)

pub rising-begin : {s : List ℕ} {last : Row} → (length s / 16 ≡ 0 → ⊥) → Loaded s 0 last → Rising s last 1
unfolding rows_in row_count
rising-begin {s} ne l = record { j = 0; next = refl; upto = omega (arith, ne); at = l; same = rw (sub-zero (length s / 16)) }

module _ {s : List ℕ} {last next : Row} {i : ℕ} (w : Rising s last i) (h : i < row_count s) (l : Loaded s i next) {t : Bool} (q : t ≡ ltb (rank last) (rank next)) where
  two : is_rising (rows_in s) ≡ both (not (not_after next last)) (is_rising (rows_at (row_count s - i) (drop (16 * i) s)))
  two =
      let m : row_count s - w.j ≡ suc (suc (row_count s - i - 1)) = omega (arith, w.next) in
      let n : suc (row_count s - i - 1) ≡ row_count s - i = omega arith in
      let k : 16 * w.j + 16 ≡ 16 * i = omega (arith, w.next) in
      let a : drop 16 (drop (16 * w.j) s) ≡ drop (16 * i) s = drop-drop 16 (16 * w.j) s ∙ ap (λ k. drop k s) k in
      sym w.same ∙ ap (λ n. is_rising (rows_at n (drop (16 * w.j) s))) m ∙ rising-two (row_count s - i - 1) (drop (16 * w.j) s)
      ∙ rw (a, ← w.at.row, ← l.row, n)

  pub rising-stop : t ≡ false → false ≡ is_rising (rows_in s)
  rising-stop e =
      let more : rank next ≤ rank last = ltb-false (rank last) (rank next) (sym q ∙ e) in
      let no : not_after next last ≡ true = after-rank next last l.fits w.at.fits ∙ le-leb (rank next) (rank last) more in
      sym (two ∙ ap (λ b. both (not b) (is_rising (rows_at (row_count s - i) (drop (16 * i) s)))) no ∙ (unfold both in refl))

  pub rising-next : t ≡ true → Rising s next (i + 1)
  rising-next e =
      let less : rank last < rank next = ltb-true (rank last) (rank next) (sym q ∙ e) in
      let yes : not_after next last ≡ false = after-rank next last l.fits w.at.fits ∙ lt-leb (rank next) (rank last) less in
      record {
        j = i;
        next = omega arith;
        upto = omega arith;
        at = l;
        same = sym (two ∙ ap (λ b. both (not b) (is_rising (rows_at (row_count s - i) (drop (16 * i) s)))) yes ∙ (unfold both in refl));
      }

pub rising-end : {s : List ℕ} {last : Row} {i : ℕ} → Rising s last i → row_count s ≤ i → true ≡ is_rising (rows_in s)
rising-end {s} {last} {i} w h =
    let n : row_count s - w.j ≡ 1 = omega (arith, w.next, w.upto) in
    sym (sym w.same ∙ ap (λ n. is_rising (rows_at n (drop (16 * w.j) s))) n ∙ rising-one (drop (16 * w.j) s))
