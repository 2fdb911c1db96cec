-- `decoder::decode` meets its contract: group by group, what is made and what is left make the message.
-- Assumes nothing.
use Prim.Native.Nat.{◌-◌}
use lib.ListN.{length}
use Rattle.decoder.proofs.Decoding.{Decoding}
use Rattle.decoder.proofs.decode.Given as goal

abbrev pub invariant-loop-i : goal.invariant-loop-i
invariant-loop-i l = Decoding l.frame l.gap l.len l.i l.message

abbrev pub decreases-loop-i : goal.decreases-loop-i
decreases-loop-i l = length l.frame - l.i
