-- `utf8::is_char` meets its contract.
-- Assumes nothing.
use borrow.Author.Tests.{lt-ltb, le-ltb, lt-leb}
use Rattle.wire.specs.Tests.{pick}
use Rattle.wire.specs.Text.{is_char}
use Rattle.utf8.proofs.is_char.Goals as goal

pub returns-then-c-lt55296 : goal.returns-then-c-lt55296
unfolding is_char pick
returns-then-c-lt55296 c = rw (lt-ltb _ _ c.if-c-lt55296.true)

pub returns-then-c-ge57344 : goal.returns-then-c-ge57344
unfolding is_char pick
returns-then-c-ge57344 c = rw (le-ltb _ _ c.if-c-lt55296.false, le-ltb _ _ c.if-c-ge57344.true)

pub returns-else-c-ge57344 : goal.returns-else-c-ge57344
unfolding is_char pick
returns-else-c-ge57344 c = rw (le-ltb _ _ c.if-c-lt55296.false, lt-ltb _ _ c.if-c-ge57344.false, lt-leb _ _ c.if-c-ge57344.false)
