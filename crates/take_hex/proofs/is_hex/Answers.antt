-- `take_hex::is_hex` meets its contract: the row's end, or what stands there.
-- Assumes nothing.
use mathlib.Core.Path.{◌∙◌}
use native.Mathlib.Omega.{arith}
use lib.ListN.{length}
use borrow.Author.Tests.{le-ltb}
use Rattle.take_hex.proofs.Counting.{hex-test, hex-beyond}
use Rattle.take_hex.proofs.is_hex.Goals as goal

pub returns-then-at-row : goal.returns-then-at-row
returns-then-at-row c = c.is_digit.ensures ∙ hex-test c.args.row.now c.args.at (omega arith)

pub returns-else-at-row : goal.returns-else-at-row
returns-else-at-row c = rw (le-ltb c.args.at (length c.args.row.now) (omega arith)) (hex-beyond c.args.row.now c.args.at (omega arith))
