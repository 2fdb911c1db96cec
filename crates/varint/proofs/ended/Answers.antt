-- `varint::ended` meets its contract: the choice is the code's.
-- Assumes nothing.
use borrow.Author.Tests.{eq-eqb, ne_eqb}
use Rattle.wire.specs.Tests.{pick}
use Rattle.varint.specs.Takes.{ends_short}
use Rattle.varint.proofs.ended.Goals as goal

pub returns-then-used-eq1 : goal.returns-then-used-eq1
unfolding ends_short pick
returns-then-used-eq1 c = rw (eq-eqb _ _ c.if-used-eq1.true)

pub returns-else-used-eq1 : goal.returns-else-used-eq1
unfolding ends_short pick
returns-else-used-eq1 c = rw (ne_eqb _ _ c.if-used-eq1.false)
