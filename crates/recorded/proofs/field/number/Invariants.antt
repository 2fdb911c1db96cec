-- `recorded::field::number` meets its contract: the bytes passed make up the value, behind which another fits up to `most`.
-- Assumes nothing.
use Rattle.recorded.proofs.Numbers.{Counts}
use Rattle.recorded.proofs.field.number.Given as goal

abbrev pub invariant-loop-byte : goal.invariant-loop-byte
invariant-loop-byte l = Counts l.bytes l.value l.byte-index
