-- Putting rows: those of the messages so far stand in front, and there is room for as many as there are messages.
-- Assumes nothing.
use mathlib.Core.Path.{◌≡◌, refl, sym, ap, ◌∙◌}
use mathlib.Core.Bool.{true}
use mathlib.Core.List.{List, [], ◌∷◌, ◌++◌, append-nil, append_assoc}
use Prim.Native.Nat.{ℕ, ◌+◌, ◌-◌, ◌*◌, ◌≤◌, ◌<◌}
use native.Mathlib.Nat.{zero-add}
use native.Mathlib.Omega.{arith}
use lib.ListN.{length, take, drop, length-append}
use lib.Seq.{sets, length-sets, sets-eq, drop-length}
use Rattle.wire.specs.declared.Refusal.{Refusal}
use Rattle.laws.proofs.Parts.{tail, sets-append}
use Rattle.desk.specs.declared.Key.{Key}
use Rattle.desk.specs.declared.Row.{Row}
use Rattle.desk.specs.Rows.{row_bytes, rows_bytes}
use Rattle.desk.specs.Messages.{Keyed, is_keyed, Message, next_of, Split, whole, broken, onto, split, joined, rows_of}
use Rattle.batches.proofs.Bytes.{length-rows, length-rows_of}
use Rattle.batches.proofs.Onward.{ontos, ontos-whole, ontos-broken, rows-one}
use Rattle.row.specs.Ranks.{row_count}
use Rattle.messages.specs.NextMessage.{NextMessage}
use Rattle.messages.specs.NextMessage.{Message as Is, Stops}
use Rattle.messages.specs.Steps.{next_answer}
use Rattle.messages.proofs.SoFar.{Told, told, stopped, SoFar, begin, one_more, step, step_less, step-inside, step-stops, step_end}
use Rattle.laying.specs.Counts.{Whole, rows_for}

not-whole : {A : Type 0} {e : Refusal} {p : ℕ} {ms : List Message} → broken e p ≡ whole ms → A
not-whole q = let z : ◌≡◌ {A = ℕ} 0 1 = cc in absurd (omega arith)

same_whole : {xs ys : List Message} → whole xs ≡ whole ys → xs ≡ ys
same_whole q = cc

pub rows_append : (xs ys : List Row) → rows_bytes (xs ++ ys) ≡ rows_bytes xs ++ rows_bytes ys
unfolding rows_bytes
rows_append [] ys = refl
rows_append (x ∷ xs) ys = rw (rows_append xs ys, append_assoc (row_bytes x) (rows_bytes xs) (rows_bytes ys))

pub one-row : (r : Row) → rows_bytes (r ∷ []) ≡ row_bytes r
unfolding rows_bytes
one-row r = append-nil (row_bytes r)

pub record Filling (k : Keyed) (s rows₀ : List ℕ) (at many : ℕ) (rows : List ℕ) : Type 0 where
  pub them : List Message
  pub so_far : SoFar k s at many them
  pub bytes : rows ≡ sets rows₀ 0 (rows_bytes (rows_of 0 them))

pub filling-begin : (k : Keyed) (s rows : List ℕ) → Filling k s rows 0 0 rows
unfolding rows_of rows_bytes
filling-begin k s rows = record { them = []; so_far = begin k s; bytes = refl }

module _ {k : Keyed} {s rows₀ : List ℕ} {at many : ℕ} {rows : List ℕ} (ok : is_keyed k ≡ true) (all : Whole (split k s) rows₀) (w : Filling k s rows₀ at many rows) where
  module _ (h : at < length s) {r : NextMessage} (n : r ≡ next_answer (next_of k (take (length s - at) (drop at s)))) where
    there : r ≡ next_answer (next_of k (drop at s))
    there = n ∙ ap (λ s. next_answer (next_of k s)) (tail s at)

    pub filling-never : {A : Type 0} {why : Refusal} {p : ℕ} → r ≡ Stops why p → A
    filling-never e = not-whole (sym (step-stops ok w.so_far h (stopped k (drop at s) there e)) ∙ all.is)

    module _ {key : Key} {len : ℕ} (e : r ≡ Is key len) where
      tells : Told k (drop at s) key len
      tells = told k (drop at s) there e

      one_left : many < length all.them
      one_left = go (split k tells.rest) refl
        where
          go : (x : Split) → split k tells.rest ≡ x → many < length all.them
          go (broken why p) z =
              let here : ontos w.them (onto tells.message (broken why p)) ≡ broken why (length (joined w.them) + (length tells.message.bytes + p)) = unfold onto in ontos-broken w.them why (length tells.message.bytes + p) in
              not-whole (sym (one_more ok w.so_far h tells ∙ ap (λ x. ontos w.them (onto tells.message x)) z ∙ here) ∙ all.is)
          go (whole rs) z =
              let here : ontos w.them (onto tells.message (whole rs)) ≡ whole (w.them ++ (tells.message ∷ rs)) = unfold onto in ontos-whole w.them (tells.message ∷ rs) in
              let same = same_whole (sym (one_more ok w.so_far h tells ∙ ap (λ x. ontos w.them (onto tells.message x)) z ∙ here) ∙ all.is) in
              omega (arith, ap length same, length-append w.them (tells.message ∷ rs), w.so_far.many)

      pub filling-room : many < row_count rows
      unfolding row_count
      filling-room = omega (arith, one_left, all.room, ap length w.bytes ∙ length-sets rows₀ 0 (rows_bytes (rows_of 0 w.them)))

      pub filling-next : {new : List ℕ} → new ≡ sets rows (16 * many) (row_bytes (record { key = key; offset = at })) → Filling k s rows₀ (at + len) (many + 1) new
      filling-next {new} q = record { them = w.them ++ (tells.message ∷ []); so_far = step ok w.so_far h tells; bytes = q ∙ ap (λ t. sets t (16 * many) (row_bytes row)) w.bytes ∙ more }
        where
          row : Row
          row = record { key = key; offset = at }

          size : 0 + length (rows_bytes (rows_of 0 w.them)) ≡ 16 * many
          size = zero-add _ ∙ length-rows (rows_of 0 w.them) ∙ rw (length-rows_of 0 w.them, w.so_far.many)

          all-rows : rows_bytes (rows_of 0 (w.them ++ (tells.message ∷ []))) ≡ rows_bytes (rows_of 0 w.them) ++ row_bytes row
          all-rows =
              ap rows_bytes (rows-one 0 w.them tells.message ∙ rw (tells.its-key, zero-add (length (joined w.them)), w.so_far.behind))
              ∙ rows_append (rows_of 0 w.them) (row ∷ []) ∙ ap (λ t. rows_bytes (rows_of 0 w.them) ++ t) (one-row row)

          more : sets (sets rows₀ 0 (rows_bytes (rows_of 0 w.them))) (16 * many) (row_bytes row) ≡ sets rows₀ 0 (rows_bytes (rows_of 0 (w.them ++ (tells.message ∷ []))))
          more =
              ap (λ i. sets (sets rows₀ 0 (rows_bytes (rows_of 0 w.them))) i (row_bytes row)) (sym size)
              ∙ sets-append rows₀ 0 (rows_bytes (rows_of 0 w.them)) (row_bytes row) ∙ ap (sets rows₀ 0) (sym all-rows)

      pub filling-on : 0 < len
      filling-on = step_less ok w.so_far h tells

      pub filling-more : at + len ≤ length s
      filling-more = step-inside ok w.so_far h tells

  pub filling-end : length s ≤ at → rows ≡ rows_for (split k s)
  filling-end h =
      let same : all.them ≡ w.them = same_whole (sym all.is ∙ step_end ok w.so_far h) in
      let size : length (rows_bytes (rows_of 0 w.them)) ≡ length rows₀ = length-rows (rows_of 0 w.them) ∙ rw (length-rows_of 0 w.them, ← same) (sym all.room) in
      w.bytes ∙ sets-eq (rows_bytes (rows_of 0 w.them)) rows₀ 0 (omega arith) ∙ ended size ∙ sym (ap rows_for (step_end ok w.so_far h) ∙ (unfold rows_for in refl))
    where
      ended : length (rows_bytes (rows_of 0 w.them)) ≡ length rows₀ → take 0 rows₀ ++ rows_bytes (rows_of 0 w.them) ++ drop (0 + length (rows_bytes (rows_of 0 w.them))) rows₀ ≡ rows_bytes (rows_of 0 w.them)
      ended size = rw (zero-add (length (rows_bytes (rows_of 0 w.them))), size, drop-length rows₀) (append-nil (rows_bytes (rows_of 0 w.them)))

  pub filling-size : length rows ≡ length rows₀
  filling-size = ap length w.bytes ∙ length-sets rows₀ 0 (rows_bytes (rows_of 0 w.them))
