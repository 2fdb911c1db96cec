-- `varint::put` meets its contract: the loop's invariant is `Writing`.
-- Assumes nothing.
use Rattle.varint.proofs.Writing.{begin, stop, more}
use Rattle.varint.proofs.put.Goals as goal

pub loop-rest-init : goal.loop-rest-init
loop-rest-init c = begin _ _ _ c.ranges.x.fits

pub loop-rest-preserved : goal.loop-rest-preserved
loop-rest-preserved c = rw c.put_byte.ensures (more c.loop-rest.invariant c.loop-rest-test.true)

pub returns : goal.returns
returns c = rw c.put_byte-2.ensures (stop c.loop-rest.invariant c.loop-rest-test.false)
