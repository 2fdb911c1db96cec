-- `take_number::is_at` meets its contract: the row's end, or what stands there.
-- Assumes nothing.
use native.Mathlib.Omega.{arith}
use lib.ListN.{length}
use borrow.Author.Tests.{le-ltb}
use Rattle.take_number.proofs.Figures.{at_test, at-beyond}
use Rattle.take_number.proofs.is_at.Goals as goal

pub returns-then-at-row : goal.returns-then-at-row
returns-then-at-row c = at_test c.args.row.now c.args.at c.args.b (omega arith)

pub returns-else-at-row : goal.returns-else-at-row
returns-else-at-row c = rw (le-ltb c.args.at (length c.args.row.now) (omega arith)) (at-beyond c.args.row.now c.args.at c.args.b (omega arith))
