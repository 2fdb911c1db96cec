-- What a binary search in the rows comes to: a row of a key, in front of the first that stands after it.
-- Assumes nothing.
use Rattle.std.specs.Prelude.{◌≡◌, Bool, true, false, List, ℕ, zero, suc, ◌<◌, ◌≤◌, length, get_or, leb}
use Rattle.std.proofs.Math.Option.{Option, none}
use Rattle.desk.specs.declared.Key.{Key}
use Rattle.desk.specs.declared.Row.{Row}
use Rattle.desk.specs.Rows.{same_key, before_or, some_if, last_row}
use Rattle.batches.specs.Sorted.{is_sorted}
use Rattle.desk.specs.declared.Fault.{Fault}
use Rattle.desk.specs.BatchChecked.{Good}
use Rattle.desk.specs.BatchFound.{BatchFound}
use Rattle.desk.specs.BatchFound.{Refused as NotFound}
use Rattle.wire.specs.Shape.{Shape}
use Rattle.desk.specs.Batch.{so, fault, after, tabled, Parts, opened, found_in, found_answer, batch_check, batch_last}

-- a key does not stand after another
unfoldable pub key_not_after : Key → Key → Bool
key_not_after a b = before_or a.store b.store (leb a.product b.product)

abbrev pub no_row : Row
no_row = record { key = record { store = 0; product = 0 }; offset = 0 }

-- where a search ends: the row in front is not after the key, and the row there is
pub record Turns (k : Key) (rows : List Row) (u : ℕ) : Type 0 where
  pub inside : u ≤ length rows
  pub before : (j : ℕ) → suc j ≡ u → key_not_after (get_or rows j no_row).key k ≡ true
  pub behind : u < length rows → key_not_after (get_or rows u no_row).key k ≡ false

-- the offset in the row in front, if it is the key's
unfoldable pub row_before : Key → List Row → ℕ → Option ℕ
row_before k rows zero = none
row_before k rows (suc j) = some_if (same_key k (get_or rows j no_row).key) (get_or rows j no_row).offset

-- in sorted rows that is the last row of the key
abbrev pub TurnsAtLast : Type 0
TurnsAtLast = (k : Key) (rows : List Row) (u : ℕ) → is_sorted rows ≡ true → Turns k rows u → row_before k rows u ≡ last_row k rows

-- ---- the search of a call, on any batch

-- a search in sorted rows, or in any: the answer is that of a place where the rows turn
pub record Searched (table batch : List ℕ) (k : Key) (answer : BatchFound) : Type 0 where
  pub u : ℕ
  pub turns : (t : Shape) (b : Parts) → tabled table ≡ so t → opened t batch ≡ so b → Turns k b.rows u
  pub said : answer ≡ found_answer (after (tabled table) (λ t. after (opened t batch) (λ b. found_in b (row_before k b.rows u))))

-- on a batch that passes the check there is one such answer, and it is the last message's
abbrev pub SearchedIsLast : Type 0
SearchedIsLast = (table batch : List ℕ) (k : Key) (answer : BatchFound) → batch_check table batch ≡ Good → Searched table batch k answer → answer ≡ batch_last table batch k

-- on any batch a refusal of the table, the fields or the trailer is the same
abbrev pub SearchedRefuses : Type 0
SearchedRefuses = (table batch : List ℕ) (k : Key) (answer : BatchFound) (e : Fault) → after (tabled table) (λ t. opened t batch) ≡ fault e → Searched table batch k answer
    → (answer ≡ NotFound e) × (batch_last table batch k ≡ NotFound e)
