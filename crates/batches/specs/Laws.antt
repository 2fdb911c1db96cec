-- What is promised of night batches, each stated once.
-- Assumes nothing.
use Rattle.std.specs.Prelude.{◌≡◌, List, ℕ, ◌^◌, ◌≤◌, take, drop}
use Rattle.std.proofs.Math.Option.{none}
use Rattle.laws.specs.Range.{AreBytes}
use Rattle.desk.specs.BatchChecked.{Good}
use Rattle.desk.specs.BatchWritten.{Done as Written}
use Rattle.desk.specs.declared.Key.{Key}
use Rattle.desk.specs.Rows.{last_row, rows_at}
use Rattle.desk.specs.Messages.{Part}
use Rattle.desk.specs.Batch.{Or, so, fault, writes, finds_last, finds_from_front, written_answer, out_with, batch_check}

-- what writing makes passes the check
abbrev pub WritingPasses : Type 0
WritingPasses = (table messages : List ℕ) (store product room : ℕ) (batch : List ℕ) → writes table messages store product room ≡ so batch → batch_check table batch ≡ Good

-- what a call says it has written stands in front of the output
abbrev pub WrittenInFront : Type 0
WrittenInFront = (made : Or (List ℕ)) (out : List ℕ) (n : ℕ) → written_answer made ≡ Written n → made ≡ so (take n (out_with made out))

-- on a batch that passes, what the rows find is what reading every message from the front finds, 19 included
abbrev pub RowsFindLast : Type 0
RowsFindLast = (table batch : List ℕ) (k : Key) → batch_check table batch ≡ Good → finds_last table batch k ≡ finds_from_front table batch k

-- the bytes of the message that was found
unfoldable pub found_bytes : List ℕ → Or Part → Or (List ℕ)
found_bytes batch (so p) = so (take p.len (drop p.from batch))
found_bytes batch (fault e) = fault e

-- a store number above 2^32 - 1 is in no row: 19
abbrev pub LargeStore : Type 0
LargeStore = (k : Key) (n : ℕ) (s : List ℕ) → AreBytes s → 2 ^ 32 ≤ k.store → last_row k (rows_at n s) ≡ none
