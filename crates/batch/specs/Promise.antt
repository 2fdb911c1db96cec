-- That the contracts of writing, of the check, of the part and of compaction leave no choice. What `last` promises on a batch that the check refuses leaves one, and stands in
-- docs/EXCEPTIONS.md.
-- Assumes nothing.
use Rattle.std.specs.Prelude.{◌≡◌, List, ℕ, length}
use Rattle.laws.specs.Unique.{Unique}
use Rattle.desk.specs.BatchChecked.{BatchChecked}
use Rattle.desk.specs.BatchFound.{BatchFound}
use Rattle.desk.specs.BatchWritten.{BatchWritten}
use Rattle.desk.specs.Batch.{Or, batch_check, part_of}
use Rattle.desk.specs.Compact.{compacts}
use Rattle.batch.specs.Writing.{Writes}

-- One answer meets the contract of `check`.
abbrev pub OneCheck : Type 0
OneCheck = (table batch : List ℕ) → Unique (λ (r : BatchChecked). r ≡ batch_check table batch)

-- One part meets the contract of `part`.
abbrev pub OnePart : Type 0
OnePart = (batch : List ℕ) (found : BatchFound) → Unique (λ (r : List ℕ). r ≡ part_of batch found)

-- One answer, and one output, meet the contract of `write`, which names what is made.
abbrev pub OneWriting : Type 0
OneWriting = (made : Or (List ℕ)) (out : List ℕ) → Unique (λ (r : BatchWritten × List ℕ). Writes made out r.0 r.1)

-- One answer, and one output, meet the contract of `compact`.
abbrev pub OneCompaction : Type 0
OneCompaction = (table batch out : List ℕ) → Unique (λ (r : BatchWritten × List ℕ). Writes (compacts table batch (length out)) out r.0 r.1)
