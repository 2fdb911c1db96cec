-- `singles::after_few` meets its contract: the loop's invariant is that what is to be said of the rest stays.
-- Assumes nothing.
use Rattle.singles.specs.Passed.{Same}
use Rattle.singles.proofs.after_few.Given as goal

abbrev pub invariant-loop-i : goal.invariant-loop-i
invariant-loop-i l = Same l.s 0 l.i
