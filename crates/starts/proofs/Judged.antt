-- All rows of one window after the other, and then the counts, decide whether a batch is good.
-- Assumes nothing.
use mathlib.Core.Path.{◌≡◌, sym, ◌∙◌, subst}
use mathlib.Core.Bool.{Bool, true, false}
use mathlib.Core.List.{List}
use Prim.Native.Nat.{ℕ, ◌+◌, ◌≤◌, ◌<◌}
use native.Mathlib.Omega.{arith}
use lib.ListN.{length, get_or}
use lib.Dec.{eqb}
use borrow.Author.Tests.{eqb-true, eqb-false}
use Rattle.laws.proofs.Splits.{by-test, by-lt, up_to}
use Rattle.desk.specs.declared.Row.{Row}
use Rattle.desk.specs.Messages.{Keyed, is_keyed}
use Rattle.desk.specs.Batch.{Parts}
use Rattle.batches.specs.Search.{no_row}
use Rattle.batches.specs.Sorted.{is_rising}
use Rattle.batches.specs.Starts.{Starts, in-front, RowOf}
use Rattle.batches.proofs.Standing.{falls-bad, wrong-bad, unread-bad, few-bad, all-good}
use Rattle.row.specs.Ranks.{row_count, rows_in, Loaded}
use Rattle.row.proofs.Bytes.{rows_get, length-rows_in}
use Rattle.starts.specs.Marked.{Marked}
use Rattle.starts.specs.Marked.{Upto, Stopped}
use Rattle.starts.specs.Window.{Window, Marks, marks, unread, Placed, Stands, placed, wrong, AllStand, all_placed, one-wrong, Judges, good, bad}
use Rattle.starts.proofs.Windows.{start-few}

-- ---- the rows of a window

pub record Placing (k : Keyed) (s : List ℕ) (base at : ℕ) (rows : List ℕ) (i : ℕ) : Type 0 where
  pub upto : i ≤ row_count rows
  pub so_far : (j : ℕ) → j < i → Placed k s base at (get_or (rows_in rows) j no_row)

pub placing-begin : {k : Keyed} {s : List ℕ} {base at : ℕ} {rows : List ℕ} → Placing k s base at rows 0
placing-begin = record { upto = omega arith; so_far = λ j h. absurd (omega arith) }

module _ {k : Keyed} {s : List ℕ} {base at : ℕ} {rows : List ℕ} {i : ℕ} (w : Placing k s base at rows i) (h : i < row_count rows) {r : Row} (l : Loaded rows i r) {t : Bool} (x : Stands k s base at r t) where
  it : r ≡ get_or (rows_in rows) i no_row
  it = l.row ∙ sym (rows_get rows i no_row h)

  pub placing-wrong : t ≡ false → AllStand k s base at (rows_in rows) false
  placing-wrong e = go (subst (Stands k s base at r) e x)
    where
      go : Stands k s base at r false → AllStand k s base at (rows_in rows) false
      go (wrong never) = one-wrong i (omega (arith, length-rows_in rows)) (λ v. never (subst (RowOf k s) (sym it) v))

  pub placing-next : t ≡ true → Placing k s base at rows (i + 1)
  placing-next e = go (subst (Stands k s base at r) e x)
    where
      go : Stands k s base at r true → Placing k s base at rows (i + 1)
      go (placed p) =
          record {
            upto = omega arith;
            so_far = up_to (λ j. Placed k s base at (get_or (rows_in rows) j no_row)) i w.so_far (subst (Placed k s base at) it p);
          }

pub placing-end : {k : Keyed} {s : List ℕ} {base at : ℕ} {rows : List ℕ} {i : ℕ} → Placing k s base at rows i → row_count rows ≤ i → AllStand k s base at (rows_in rows) true
placing-end {rows} w h = all_placed (λ j b. w.so_far j (omega (arith, length-rows_in rows)))

-- ---- window by window

pub record Judging (b : Parts) (base count : ℕ) : Type 0 where
  pub starts : Starts b.keys b.front count base
  pub there : (j : ℕ) → j < length b.rows → (get_or b.rows j no_row).offset < base → RowOf b.keys b.front (get_or b.rows j no_row)
  pub before : 0 < base → (j : ℕ) → j < length b.rows → (get_or b.rows j no_row).offset < length b.front

pub judging-begin : (b : Parts) → Judging b 0 0
judging-begin b = record { starts = in-front; there = λ j h l. absurd (omega arith); before = λ h. absurd (omega arith) }

pub marks-upto : {k : Keyed} {s : List ℕ} {base : ℕ} {area : List ℕ} {r : Marked} {at count : ℕ} → Marks k s base area r → r ≡ Upto at count → Marks k s base area (Upto at count)
marks-upto m e = rw e at m

pub marks-window : {k : Keyed} {s : List ℕ} {base : ℕ} {area : List ℕ} {at count : ℕ} → Marks k s base area (Upto at count) → Window k s base at area
marks-window (marks st h w) = w

pub marks-more : {k : Keyed} {s : List ℕ} {base : ℕ} {area : List ℕ} {at count : ℕ} → Marks k s base area (Upto at count) → base < at
marks-more (marks st h w) = h

pub marks-starts : {k : Keyed} {s : List ℕ} {base : ℕ} {area : List ℕ} {at count : ℕ} → Marks k s base area (Upto at count) → Starts k s count at
marks-starts (marks st h w) = st

module _ (b : Parts) (ok : is_keyed b.keys ≡ true) where
  pub judged-unread : {base : ℕ} {area : List ℕ} {r : Marked} → Marks b.keys b.front base area r → r ≡ Stopped → Judges b false
  judged-unread {base} {area} m e = go (rw e at m)
    where
      go : Marks b.keys b.front base area Stopped → Judges b false
      go (unread st h q) = bad (unread-bad b ok st h q)

  pub judged-falls : {t : Bool} → t ≡ is_rising b.rows → t ≡ false → Judges b false
  judged-falls e q = bad (falls-bad b (sym e ∙ q))

  module _ {base count : ℕ} (w : Judging b base count) where
    module _ {area : List ℕ} {at many : ℕ} (m : Marks b.keys b.front base area (Upto at many)) {t : Bool} (x : AllStand b.keys b.front base at b.rows t) where
      pub judged-wrong : t ≡ false → Judges b false
      judged-wrong e = go (subst (AllStand b.keys b.front base at b.rows) e x)
        where
          go : AllStand b.keys b.front base at b.rows false → Judges b false
          go (one-wrong j h never) = bad (wrong-bad b j h never)

      pub judging-next : t ≡ true → Judging b at many
      judging-next e = go (subst (AllStand b.keys b.front base at b.rows) e x)
        where
          go : AllStand b.keys b.front base at b.rows true → Judging b at many
          go (all_placed f) =
              record {
                starts = marks-starts m;
                there = λ j h l. by-lt (get_or b.rows j no_row).offset base (λ lo. w.there j h lo) (λ hi. (f j h).there hi l);
                before = λ z j h. (f j h).before;
              }

    pub judged-end : {many : ℕ} → is_rising b.rows ≡ true → length b.front ≤ base → length b.rows ≡ many → Judges b (eqb count many)
    judged-end rises end is =
        subst (λ n. Judges b (eqb count n)) is
        (by-test (eqb count (length b.rows))
        (λ e. subst (Judges b) (sym e) (good (all-good b ok w.starts end rises (eqb-true count (length b.rows) e) (λ j h. each j h (eqb-true count (length b.rows) e))).is))
        (λ e. subst (Judges b) (sym e) (bad (few-bad b ok w.starts end (eqb-false count (length b.rows) e)))))
      where
        each : (j : ℕ) → j < length b.rows → count ≡ length b.rows → RowOf b.keys b.front (get_or b.rows j no_row)
        each j h q = w.there j h (omega (arith, w.before (omega (arith, start-few ok w.starts)) j h))
