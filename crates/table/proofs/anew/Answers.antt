-- `table::anew` meets its contract: either way the answer is the one that came.
-- Assumes nothing.
use mathlib.Core.Path.{sym}
use Rattle.table.proofs.anew.Goals as goal

pub returns : goal.returns
returns c = sym c.in-Ok.is
