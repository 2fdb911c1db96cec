-- `utf8::over` meets its contract.
-- Assumes nothing.
use native.Mathlib.Omega.{arith}
use Rattle.utf8.specs.Chars.{over_of}
use Rattle.utf8.proofs.over.Goals as goal

pub returns : goal.returns
unfolding over_of
returns c = omega (arith, c.saturating_sub.ensures)
