-- `compare::compare_good` meets its contract: each of its words is as good as another.
-- Assumes nothing.
use Rattle.compare.proofs.compare_good.Goals as goal

pub returns-then-bytes-le-SHORT : goal.returns-then-bytes-le-SHORT
returns-then-bytes-le-SHORT c = c.compare_by.ensures

pub returns-then-bytes-le-MIDDLE : goal.returns-then-bytes-le-MIDDLE
returns-then-bytes-le-MIDDLE c = c.compare_by-then-bytes-le-MIDDLE.ensures

pub returns : goal.returns
returns c = c.compare_by-2.ensures
