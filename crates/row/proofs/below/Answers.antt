-- `row::below` meets its contract.
-- Assumes nothing.
use Rattle.row.proofs.Ranks.{under-store, under-product, under-offset}
use Rattle.row.proofs.below.Goals as goal

pub returns-then-a-b : goal.returns-then-a-b
returns-then-a-b c = under-store _ _ c.requires.0 c.requires.1 c.if-a-b.true

pub returns-then-a-b-2 : goal.returns-then-a-b-2
returns-then-a-b-2 c = under-product _ _ c.requires.0 c.requires.1 c.if-a-b.false c.if-a-b-2.true

pub returns : goal.returns
returns c = under-offset _ _ c.requires.0 c.requires.1 c.if-a-b.false c.if-a-b-2.false
