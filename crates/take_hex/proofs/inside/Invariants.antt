-- `take_hex::inside` meets its contract: the loop's invariant is that what follows from `at` on is all that follows.
-- Assumes nothing.
use Prim.Native.Nat.{◌-◌}
use lib.ListN.{length}
use Rattle.take_hex.proofs.Counting.{Going}
use Rattle.take_hex.proofs.inside.Given as goal

abbrev pub invariant-loop-at : goal.invariant-loop-at
invariant-loop-at l = Going l.row l.from l.at l.len

abbrev pub decreases-loop-at : goal.decreases-loop-at
decreases-loop-at l = length l.row - l.at
