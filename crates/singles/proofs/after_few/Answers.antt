-- `singles::after_few` meets its contract: the loop's invariant is that what is to be said of the rest stays.
-- Assumes nothing.
use mathlib.Core.Path.{refl}
use native.Mathlib.Omega.{arith}
use Rattle.singles.proofs.Passed.{here, single}
use Rattle.singles.proofs.after_few.Goals as goal

pub loop-i-init : goal.loop-i-init
loop-i-init c = here _ _ (omega arith)

pub loop-i-preserved : goal.loop-i-preserved
loop-i-preserved c = single _ refl (omega arith) (omega arith) c.loop-i.invariant
