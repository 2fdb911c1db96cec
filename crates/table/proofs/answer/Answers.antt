-- `table::answer` meets its contract: there is a bad node or there is none.
-- Assumes nothing.
use Rattle.table.proofs.Checks.{bad-node, no-bad}
use Rattle.table.proofs.answer.Goals as goal

pub returns-then-bad-l : goal.returns-then-bad-l
returns-then-bad-l c = bad-node _ _ c.if-bad-l.true

pub returns : goal.returns
returns c = no-bad _ _ c.if-bad-l.false
