-- `recorded::memory::sum` meets its contract: the bytes passed make up the two halves.
-- Assumes nothing.
use Rattle.recorded.proofs.Sums.{sums_none, sums-more, sums-all}
use Rattle.recorded.proofs.memory.sum.Goals as goal

pub loop-byte-init : goal.loop-byte-init
loop-byte-init c = sums_none _

pub loop-byte-preserved : goal.loop-byte-preserved
loop-byte-preserved c = sums-more c.loop-byte.invariant c.loop-byte-test.true

pub returns : goal.returns
returns c = sums-all c.loop-byte.invariant c.loop-byte-test.false
