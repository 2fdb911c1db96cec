-- `take_text::inside` meets its contract: the loop's invariant is that what follows from `at` on is all that follows.
-- Assumes nothing.
use Prim.Native.Nat.{◌-◌}
use lib.ListN.{length}
use Rattle.take_text.proofs.Marking.{Going}
use Rattle.take_text.proofs.inside.Given as goal

abbrev pub invariant-loop-at : goal.invariant-loop-at
invariant-loop-at l = Going l.one l.row l.from l.at l.len l.«open».more l.«open».low l.«open».high

abbrev pub decreases-loop-at : goal.decreases-loop-at
decreases-loop-at l = length l.row - l.at
