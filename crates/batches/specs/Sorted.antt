-- What any sorting of rows makes: rows in order, each as often as before.
-- Assumes nothing.
use Rattle.std.specs.Prelude.{◌≡◌, Bool, true, not, List, [], ◌∷◌, ℕ, ◌+◌, ◌<◌, length, get_or}
use Rattle.wire.specs.Tests.{pick, both}
use Rattle.desk.specs.declared.Row.{Row}
use Rattle.desk.specs.Rows.{same_row, not_after, sort}
use Rattle.desk.specs.Messages.{Keyed, Message, rows_of}
use Rattle.batches.specs.Reads.{Reads}

-- no row stands after the next
unfoldable pub is_sorted : List Row → Bool
is_sorted [] = true
is_sorted (r ∷ []) = true
is_sorted (r ∷ x ∷ xs) = both (not_after r x) (is_sorted (x ∷ xs))

-- each row stands before the next
unfoldable pub is_rising : List Row → Bool
is_rising [] = true
is_rising (r ∷ []) = true
is_rising (r ∷ x ∷ xs) = both (not (not_after x r)) (is_rising (x ∷ xs))

-- how often a row occurs
unfoldable pub tally : Row → List Row → ℕ
tally r [] = 0
tally r (x ∷ xs) = pick (same_row r x) 1 0 + tally r xs

pub record Sorts (rows sorted : List Row) : Type 0 where
  pub ordered : is_sorted sorted ≡ true
  pub same : (r : Row) → tally r sorted ≡ tally r rows

-- `sort` is one such list, and there is no other
abbrev pub SortsOnce : Type 0
SortsOnce = (rows sorted : List Row) → Sorts rows sorted → sorted ≡ sort rows

abbrev pub SortSorts : Type 0
SortSorts = (rows : List Row) → Sorts rows (sort rows)

-- ---- without sorting

-- each row of a list occurs among others
pub data AllIn (rows : List Row) : List Row → Type 0 where
  none_left : AllIn rows []
  each : {r : Row} {rs : List Row} → 0 < tally r rows → AllIn rows rs → AllIn rows (r ∷ rs)

-- rising rows, as many as messages, each of which is one of the messages' rows, are these sorted
abbrev pub SortedIfThose : Type 0
SortedIfThose = (ms : List Message) (rows : List Row) → is_rising rows ≡ true → length rows ≡ length ms → AllIn (rows_of 0 ms) rows → rows ≡ sort (rows_of 0 ms)

-- and the rows of messages rise once they are sorted
abbrev pub SortedRises : Type 0
SortedRises = (k : Keyed) (s : List ℕ) (ms : List Message) → Reads k s ms → is_rising (sort (rows_of 0 ms)) ≡ true

-- a row that stands somewhere occurs
abbrev pub OccursAt : Type 0
OccursAt = (rows : List Row) (j : ℕ) (d : Row) → j < length rows → 0 < tally (get_or rows j d) rows
