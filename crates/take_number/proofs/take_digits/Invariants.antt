-- `take_number::take_digits` meets its contract: the loop's invariant is that what follows the digits so far is all that follows.
-- Assumes nothing.
use Prim.Native.Nat.{◌-◌}
use lib.ListN.{length}
use Rattle.take_number.proofs.Figures.{Going}
use Rattle.take_number.proofs.take_digits.Given as goal

abbrev pub invariant-loop-x : goal.invariant-loop-x
invariant-loop-x l = Going l.most l.first l.row l.from l.x l.at

abbrev pub decreases-loop-x : goal.decreases-loop-x
decreases-loop-x l = length l.row - l.at
