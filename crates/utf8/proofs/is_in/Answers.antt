-- `utf8::is_in` meets its contract.
-- Assumes nothing.
use borrow.Author.Tests.{lt-leb, le-leb}
use Rattle.wire.specs.Tests.{both}
use Rattle.utf8.proofs.is_in.Goals as goal

pub returns-then-low-b : goal.returns-then-low-b
unfolding both
returns-then-low-b c = rw (le-leb _ _ c.if-low-b.true)

pub returns-else-low-b : goal.returns-else-low-b
unfolding both
returns-else-low-b c = rw (lt-leb _ _ c.if-low-b.false)
