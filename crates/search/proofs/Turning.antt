-- A search by halves for where rows turn: the row in front of `low` is not after the key, and the row at `high` is.
-- Assumes nothing.
use mathlib.Core.Path.{◌≡◌, sym, ap, ◌∙◌}
use mathlib.Core.Bool.{Bool, true, false}
use mathlib.Core.List.{List}
use Prim.Native.Nat.{ℕ, suc, ◌+◌, ◌-◌, ◌/◌, ◌≤◌, ◌<◌}
use native.Mathlib.Omega.{arith}
use lib.ListN.{length, get_or}
use lib.Dec.{leb, ltb}
use borrow.Author.Tests.{eq-eqb, ne_eqb}
use Rattle.wire.specs.Tests.{pick}
use Rattle.desk.specs.declared.Key.{Key}
use Rattle.desk.specs.declared.Row.{Row}
use Rattle.desk.specs.Rows.{before_or}
use Rattle.batches.specs.Search.{key_not_after, no_row, Turns}
use Rattle.row.specs.Ranks.{row_count, rows_in, Loaded}
use Rattle.row.proofs.Bytes.{rows_get, length-rows_in}

-- ---- the test

pub after_same : (a b : Key) → a.store ≡ b.store → leb a.product b.product ≡ key_not_after a b
unfolding key_not_after before_or pick
after_same a b e = rw (eq-eqb a.store b.store e)

pub after-other : (a b : Key) → (a.store ≡ b.store → ⊥) → ltb a.store b.store ≡ key_not_after a b
unfolding key_not_after before_or pick
after-other a b ne = rw (ne_eqb a.store b.store ne)

-- ---- the loop

pub record Turning (s : List ℕ) (k : Key) (low high : ℕ) : Type 0 where
  pub few : low ≤ high
  pub inside : high ≤ row_count s
  pub before : (j : ℕ) → suc j ≡ low → key_not_after (get_or (rows_in s) j no_row).key k ≡ true
  pub behind : high < row_count s → key_not_after (get_or (rows_in s) high no_row).key k ≡ false

pub turning-begin : (s : List ℕ) (k : Key) → Turning s k 0 (length s / 16)
unfolding row_count
turning-begin s k = record { few = omega arith; inside = omega arith; before = λ j e. absurd (omega arith); behind = λ h. absurd (omega arith) }

module _ {s : List ℕ} {k : Key} {low high : ℕ} (w : Turning s k low high) (h : low < high) {half : ℕ} (is : half ≡ low + (high - low) / 2) {found : Row} (l : Loaded s half found) where
  there : get_or (rows_in s) half no_row ≡ found
  there = rows_get s half no_row (omega (arith, w.inside)) ∙ sym l.row

  pub turning-up : {t : Bool} → t ≡ key_not_after found.key k → t ≡ true → Turning s k (half + 1) high
  turning-up q e =
      record {
        few = omega arith;
        inside = w.inside;
        before = λ j z. let at : j ≡ half = omega arith in ap (λ i. key_not_after (get_or (rows_in s) i no_row).key k) at ∙ ap (λ (r : Row). key_not_after r.key k) there ∙ sym q ∙ e;
        behind = w.behind;
      }

  pub turning-down : {t : Bool} → t ≡ key_not_after found.key k → t ≡ false → Turning s k low half
  turning-down q e =
      record {
        few = omega arith;
        inside = omega (arith, w.inside);
        before = w.before;
        behind = λ z. ap (λ (r : Row). key_not_after r.key k) there ∙ sym q ∙ e;
      }

pub turning-end : {s : List ℕ} {k : Key} {low high : ℕ} → Turning s k low high → high ≤ low → Turns k (rows_in s) low
turning-end {s} {k} {low} {high} w h =
    let e : high ≡ low = omega (arith, w.few) in
    record {
      inside = omega (arith, w.inside, length-rows_in s);
      before = w.before;
      behind = λ z. rw e at (w.behind (omega (arith, length-rows_in s)));
    }
