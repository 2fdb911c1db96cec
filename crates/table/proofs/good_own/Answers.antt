-- `table::good_own` meets its contract: a map's children are two, and an option's or a sequence's is one.
-- Assumes nothing.
use borrow.Author.Tests.{eq-eqb, ne_eqb}
use Rattle.wire.specs.Tests.{pick}
use Rattle.table.proofs.good_own.Goals as goal

pub returns-then-number-eq17 : goal.returns-then-number-eq17
unfolding pick
returns-then-number-eq17 c = rw (eq-eqb _ _ c.if-number-eq17.true) c.both_below.ensures

pub returns : goal.returns
unfolding pick
returns c = rw (ne_eqb _ _ c.if-number-eq17.false) c.one_below.ensures
