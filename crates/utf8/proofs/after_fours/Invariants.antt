-- `utf8::after_fours` meets its contract: the loop's invariant is that what is to be said of the rest stays.
-- Assumes nothing.
use Prim.Native.Nat.{◌-◌}
use lib.ListN.{length}
use Rattle.singles.specs.Passed.{Same}
use Rattle.utf8.proofs.after_fours.Given as goal

abbrev pub invariant-loop-i : goal.invariant-loop-i
invariant-loop-i l = Same l.s l.from l.i

abbrev pub decreases-loop-i : goal.decreases-loop-i
decreases-loop-i l = length l.s - l.i
