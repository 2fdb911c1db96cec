-- Bytes that were laid once are refused, or are written: the count is exact where it is compared with the output, and nothing else was changed.
-- Assumes nothing.
use mathlib.Core.Path.{◌≡◌, refl, ap, ◌∙◌}
use mathlib.Core.List.{List, ◌++◌}
use Prim.Native.Nat.{ℕ, ◌^◌, ◌<◌, ◌≤◌}
use native.Mathlib.Omega.{arith}
use native.Mathlib.Nat.{zero-add}
use lib.ListN.{length, take, drop}
use lib.Seq.{sets, sets-eq, take-append_seam}
use borrow.Author.Tests.{le-leb, lt-leb}
use Rattle.wire.specs.declared.Refusal.TheVariants.{Full}
use Rattle.wire.specs.Tests.{pick}
use Rattle.desk.specs.CsvAnswer.{CsvAnswer}
use Rattle.desk.specs.CsvAnswer.{Done, Refused}
use Rattle.desk.specs.Csv.{Output, refusal, within, csv_answer, out_after}
use Rattle.output.specs.Bytes.{cap, Puts}
use Rattle.output.proofs.Counting.{cap-above, cap-within}
use Rattle.put_number.specs.Lays.{Lays}
use Rattle.export_row.specs.Outputs.{Gives}

pub gives-no : {o : Output} {a : CsvAnswer} (out : List ℕ) → o ≡ refusal a → Gives o out a out
unfolding csv_answer out_after
gives-no out e = rw e (record { answered = refl; stored = refl })

-- bytes that an output is asked for, and that were laid in front of some others
module _ {o : Output} {s before kept : List ℕ} {n : ℕ} (out : List ℕ) (is : o ≡ within (length out) s) (l : Lays s 0 before n kept) (small : length out < 2 ^ 63) where
  count : n ≡ cap (length s)
  count = l.counted ∙ ap cap (zero-add (length s))

  pub laid-full : length out < n → Gives o out (Refused Full 0) out
  unfolding within pick
  laid-full m = gives-no out (is ∙ (rw (lt-leb (length s) (length out) (cap-above (length s) (length out) small (rw (← count) m)))))

  module _ (m : n ≤ length out) where
    exact : n ≡ length s
    exact = count ∙ cap-within (length s) (length out) small (rw (← count) m)

    stored : {left : List ℕ} → left ≡ sets out 0 s → Gives o out (Done n) left
    unfolding within pick csv_answer out_after
    stored e =
        rw (is, le-leb (length s) (length out) (omega (arith, exact)))
        (record {
          answered = ap Done exact;
          stored = e ∙ sets-eq s out 0 (omega (arith, exact)) ∙ ap (λ k. s ++ drop k out) (zero-add (length s));
        })

    front : n ≤ length before → take n kept ≡ s
    front h =
        ap (λ k. take k kept) exact
        ∙ ap (take (length s)) (l.stored (omega (arith, exact)) ∙ sets-eq s before 0 (omega (arith, exact)))
        ∙ take-append_seam s _

    -- they fitted those others, and are copied from there
    pub laid-short : n ≤ length before → {k : ℕ} {left : List ℕ} → Puts (take n kept) 0 out k left → Gives o out (Done n) left
    laid-short h p = stored (p.stored ∙ ap (sets out 0) (front h))

    -- they are laid once more, in front of the output
    pub laid-long : {k : ℕ} {left : List ℕ} → Lays s 0 out k left → Gives o out (Done n) left
    laid-long again = stored (again.stored (omega (arith, exact)))
