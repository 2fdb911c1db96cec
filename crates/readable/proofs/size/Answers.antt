-- `readable::size` meets its contract.
-- Assumes nothing.
use borrow.Author.Tests.{lt-ltb, le-ltb}
use Rattle.wire.specs.Tests.{pick}
use Rattle.readable.specs.Spelling.{size_of}
use native.Mathlib.Omega.{arith}
use Rattle.readable.proofs.size.Goals as goal

pub returns-then-word-lt-HALF : goal.returns-then-word-lt-HALF
unfolding size_of pick
returns-then-word-lt-HALF c = rw (lt-ltb _ _ c.if-word-lt-HALF.true)

pub returns : goal.returns
unfolding size_of pick
returns c = rw (le-ltb _ _ c.if-word-lt-HALF.false) (omega arith)
