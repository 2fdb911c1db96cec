-- `laying::sizes_fit` meets its contract.
-- Assumes nothing.
use mathlib.Core.Path.{◌∙◌}
use borrow.Author.Tests.{lt-leb}
use Rattle.laying.proofs.Counting.{sizes-near, sizes-far}
use Rattle.laying.proofs.sizes_fit.Goals as goal

pub returns-then-last-le-FARTHEST : goal.returns-then-last-le-FARTHEST
returns-then-last-le-FARTHEST c = sizes-near c.args.count _ c.if-last-le-FARTHEST.true

pub returns-else-last-le-FARTHEST : goal.returns-else-last-le-FARTHEST
returns-else-last-le-FARTHEST c = lt-leb c.args.last _ c.if-last-le-FARTHEST.false ∙ sizes-far c.args.count _ c.if-last-le-FARTHEST.false
