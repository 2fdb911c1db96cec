-- `keeping::mark_if` meets its contract.
-- Assumes nothing.
use Rattle.keeping.proofs.Lasting.{mark-not, mark-before, mark-beyond, mark-it}
use Rattle.keeping.proofs.mark_if.Goals as goal

pub returns-then-place-area : goal.returns-then-place-area
returns-then-place-area c = mark-it c.if-ends.true c.if-base-at.true c.if-place-area.true c.mark.ensures

pub returns-else-place-area : goal.returns-else-place-area
returns-else-place-area c = mark-beyond c.if-place-area.false

pub returns-else-base-at : goal.returns-else-base-at
returns-else-base-at c = mark-before c.if-base-at.false

pub returns-else-ends : goal.returns-else-ends
returns-else-ends c = mark-not c.if-ends.false
