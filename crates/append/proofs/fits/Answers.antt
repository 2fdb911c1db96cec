-- `append::fits` meets its contract: the choice is the code's.
-- Assumes nothing.
use Rattle.wire.specs.Tests.{pick}
use Rattle.append.proofs.fits.Goals as goal

pub returns-then-free : goal.returns-then-free
unfolding pick
returns-then-free c = rw c.if-free.true

pub returns : goal.returns
unfolding pick
returns c = rw c.if-free.false
