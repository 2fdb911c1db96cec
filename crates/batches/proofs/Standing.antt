-- A batch is good exactly if its bytes are read to the rows, these rise and are as many as the messages, and each stands at its message.
-- Assumes nothing.
use mathlib.Core.Path.{◌≡◌, refl, sym, ap, ◌∙◌}
use mathlib.Core.Bool.{true, false}
use mathlib.Core.List.{List, [], ◌∷◌}
use Prim.Native.Nat.{ℕ, suc, ◌<◌, ◌≤◌}
use native.Mathlib.Omega.{arith}
use lib.ListN.{length, drop, get_or, length-drop}
use Rattle.wire.specs.declared.Refusal.{Refusal}
use Rattle.wire.specs.Tests.{pick}
use Rattle.laws.proofs.Splits.{by-test, not-both}
use Rattle.desk.specs.declared.Row.{Row}
use Rattle.desk.specs.declared.Fault.TheVariants.{Batch as BadBatch}
use Rattle.desk.specs.Rows.{same_rows, sort}
use Rattle.desk.specs.Messages.{Keyed, is_keyed, Message, stops, next_of, Split, whole, broken, split, rows_of}
use Rattle.desk.specs.Batch.{so, fault, Parts, whole_by, messages_of}
use Rattle.batches.specs.Reads.{Reads, ended}
use Rattle.batches.specs.Search.{no_row}
use Rattle.batches.specs.Sorted.{is_rising, tally, AllIn, none_left, each}
use Rattle.batches.specs.Starts.{Starts, in-front, RowOf}
use Rattle.batches.proofs.Order.{same-rows, sort-tally}
use Rattle.batches.proofs.Bytes.{length-sort, length-rows_of}
use Rattle.batches.proofs.Ends.{split-reads}
use Rattle.batches.proofs.Checks.{messages-of}
use Rattle.batches.proofs.Found.{occurs-at}
use Rattle.batches.proofs.Rising.{sorted-if-those, sorted_rises}
use Rattle.batches.proofs.Starting.{never-stops, nothing_left, behind-of, whole_of, stands-in, in-stands}

-- no messages have these rows
pub messages-bad : (b : Parts) → ((ms : List Message) → split b.keys b.front ≡ whole ms → b.rows ≡ sort (rows_of 0 ms) → ⊥) → messages_of b ≡ fault BadBatch
unfolding messages_of
messages-bad b never = go (split b.keys b.front) refl
  where
    go : (x : Split) → split b.keys b.front ≡ x → whole_by b.rows x ≡ fault BadBatch
    go (broken e p) q = unfold whole_by in refl
    go (whole ms) q = unfold whole_by in (by-test (same_rows b.rows (sort (rows_of 0 ms))) (λ t. absurd (never ms q (same-rows _ _ t))) (λ t. unfold pick in rw t))

-- a good batch
pub record Passes (b : Parts) : Type 0 where
  pub messages : List Message
  pub is : messages_of b ≡ so messages

none-behind : {k : Keyed} (t : List ℕ) → length t ≤ 0 → Reads k t []
none-behind [] h = ended
none-behind (x ∷ t) h = absurd (omega arith)

each_in : {rows : List Row} (xs : List Row) → ((j : ℕ) → j < length xs → 0 < tally (get_or xs j no_row) rows) → AllIn rows xs
each_in [] f = none_left
each_in (x ∷ xs) f = each (f 0 (omega arith)) (each_in xs (λ j h. f (suc j) (omega arith)))

-- ---- bad

module _ (b : Parts) where
  reads_of : {ms : List Message} → split b.keys b.front ≡ whole ms → Reads b.keys b.front ms
  reads_of {ms} s = (split-reads b.keys b.front ms).0 s

  pub falls-bad : is_rising b.rows ≡ false → messages_of b ≡ fault BadBatch
  falls-bad e = messages-bad b (λ ms s q. not-both (ap is_rising q ∙ sorted_rises b.keys b.front ms (reads_of s)) e)

  pub wrong-bad : (j : ℕ) → j < length b.rows → (RowOf b.keys b.front (get_or b.rows j no_row) → ⊥) → messages_of b ≡ fault BadBatch
  wrong-bad j h never = messages-bad b (λ ms s q. never (in-stands (get_or b.rows j no_row) (reads_of s) in-front refl (some ms q)))
    where
      some : (ms : List Message) → b.rows ≡ sort (rows_of 0 ms) → 0 < tally (get_or b.rows j no_row) (rows_of 0 ms)
      some ms q =
          let a = occurs-at b.rows j no_row h in
          omega (arith, ap (tally (get_or b.rows j no_row)) q, sort-tally (get_or b.rows j no_row) (rows_of 0 ms))

  module _ (ok : is_keyed b.keys ≡ true) {n : ℕ} where
    pub unread-bad : {o p : ℕ} {why : Refusal} → Starts b.keys b.front n o → o < length b.front → next_of b.keys (drop o b.front) ≡ stops why p → messages_of b ≡ fault BadBatch
    unread-bad {o} st h e = messages-bad b (λ ms s q. never-stops (omega (arith, length-drop o b.front)) e (behind-of ok (reads_of s) st).reads)

    module _ {o : ℕ} (st : Starts b.keys b.front n o) (end : length b.front ≤ o) where
      all_read : {ms : List Message} → Reads b.keys b.front ms → n ≡ length ms
      all_read reads =
          let w = behind-of ok reads st in
          let z = nothing_left (omega (arith, length-drop o b.front)) w.reads in
          omega (arith, w.many)

      pub few-bad : (n ≡ length b.rows → ⊥) → messages_of b ≡ fault BadBatch
      few-bad ne = messages-bad b (λ ms s q. ne (all_read (reads_of s) ∙ sym (length-rows_of 0 ms) ∙ sym (length-sort (rows_of 0 ms)) ∙ sym (ap length q)))

      -- ---- good

      pub all-good : is_rising b.rows ≡ true → n ≡ length b.rows → ((j : ℕ) → j < length b.rows → RowOf b.keys b.front (get_or b.rows j no_row)) → Passes b
      all-good rises e f =
          let w = whole_of ok st (none-behind (drop o b.front) (omega (arith, length-drop o b.front))) in
          record {
            messages = w.them;
            is = messages-of b w.them w.reads (sorted-if-those w.them b.rows rises (sym e ∙ all_read w.reads) (each_in b.rows (λ j h. stands-in ok w.reads (f j h))));
          }
