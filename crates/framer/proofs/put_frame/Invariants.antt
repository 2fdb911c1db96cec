-- `framer::put_frame` meets its contract: what was put and the frame of what is left are together the frame.
-- Assumes nothing.
use Prim.Native.Nat.{◌-◌}
use lib.ListN.{length}
use Rattle.framer.proofs.Groups.{Framing}
use Rattle.framer.proofs.put_frame.Given as goal

abbrev pub invariant-loop-out : goal.invariant-loop-out
invariant-loop-out l = Framing l.message l.initial.out l.from l.at l.out

abbrev pub decreases-loop-out : goal.decreases-loop-out
decreases-loop-out l = length l.message - l.from
