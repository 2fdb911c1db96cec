-- `search::not_after` meets its contract.
-- Assumes nothing.
use Rattle.search.proofs.Turning.{after_same, after-other}
use Rattle.search.proofs.not_after.Goals as goal

pub returns-then-a-b : goal.returns-then-a-b
returns-then-a-b c = after_same _ _ c.if-a-b.true

pub returns : goal.returns
returns c = after-other _ _ c.if-a-b.false
