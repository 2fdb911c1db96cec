-- `recorded::memory::sum` meets its contract: the bytes passed make up the two halves.
-- Assumes nothing.
use Rattle.recorded.proofs.Sums.{Sums}
use Rattle.recorded.proofs.memory.sum.Given as goal

abbrev pub invariant-loop-byte : goal.invariant-loop-byte
invariant-loop-byte l = Sums l.bytes l.low l.high l.byte-index
