-- `recorded::field::number` meets its contract: the bytes passed make up the value, behind which another fits up to `most`.
-- Assumes nothing.
use Rattle.recorded.proofs.Numbers.{counts-none, counts-full, counts-more, counts_all}
use Rattle.recorded.proofs.field.number.Goals as goal

pub loop-byte-init : goal.loop-byte-init
loop-byte-init c = counts-none _

pub returns-then-value-gt-MOST : goal.returns-then-value-gt-MOST
returns-then-value-gt-MOST c = counts-full c.loop-byte.invariant c.loop-byte-test.true c.if-value-gt-MOST.true

pub loop-byte-preserved : goal.loop-byte-preserved
loop-byte-preserved c = rw c.from.ensures (counts-more c.loop-byte.invariant c.loop-byte-test.true c.if-value-gt-MOST.false)

pub returns : goal.returns
returns c = counts_all c.loop-byte.invariant c.loop-byte-test.false
