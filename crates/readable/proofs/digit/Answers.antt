-- `readable::digit` meets its contract.
-- Assumes nothing.
use borrow.Author.Tests.{lt-ltb, le-ltb}
use Rattle.wire.specs.Tests.{pick}
use Rattle.desk.specs.Csv.{digit_of}
use native.Mathlib.Omega.{arith}
use Rattle.readable.proofs.digit.Goals as goal

pub returns-then-x-lt10 : goal.returns-then-x-lt10
unfolding digit_of pick
returns-then-x-lt10 c = rw (lt-ltb _ 10 c.if-x-lt10.true)

pub returns : goal.returns
unfolding digit_of pick
returns c = rw (le-ltb _ 10 c.if-x-lt10.false) (omega arith)
