-- `table::good_list` meets its contract: places in the child list are in the table, and their numbers decide.
-- Assumes nothing.
use borrow.Author.Tests.{le-leb, lt-leb}
use Rattle.wire.specs.Tests.{both}
use Rattle.table.specs.Parts.{listed}
use Rattle.table.proofs.good_list.Goals as goal

pub returns-then-l-a : goal.returns-then-l-a
unfolding listed both
returns-then-l-a c = simp (lt-leb _ _ c.if-l-a.true)

pub returns-then-b-lt-SHORT : goal.returns-then-b-lt-SHORT
unfolding listed both
returns-then-b-lt-SHORT c = rw (le-leb _ _ c.if-l-a.false) c.few_below.ensures

pub returns : goal.returns
unfolding listed both
returns c = rw (le-leb _ _ c.if-l-a.false) c.all_below.ensures
