-- `framer::through_zero` meets its contract: no byte that was passed, from the 254th down, is zero.
-- Assumes nothing.
use Rattle.framer.proofs.Sizing.{Seeking}
use Rattle.framer.proofs.through_zero.Given as goal

abbrev pub invariant-loop-left : goal.invariant-loop-left
invariant-loop-left l = Seeking l.message l.from l.left

abbrev pub decreases-loop-left : goal.decreases-loop-left
decreases-loop-left l = l.left
