-- `messages::past_varint` meets its contract: the loop's invariant is `Passing`.
-- Assumes nothing.
use Prim.Native.Nat.{◌-◌}
use lib.ListN.{length}
use Rattle.messages.proofs.Past.{Passing}
use Rattle.messages.proofs.past_varint.Given as goal

abbrev pub invariant-loop-i : goal.invariant-loop-i
invariant-loop-i l = Passing l.part l.longest l.at l.i l.left

abbrev pub decreases-loop-i : goal.decreases-loop-i
decreases-loop-i l = length l.part - l.i
