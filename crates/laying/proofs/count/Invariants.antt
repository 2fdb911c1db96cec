-- `laying::count` meets its contract. The loop's invariant: the messages so far are those in front, and their offsets fit if the last one's does.
-- Assumes nothing.
use Prim.Native.Nat.{◌-◌}
use lib.ListN.{length}
use Rattle.messages.specs.Fields.{keys_of}
use Rattle.laying.proofs.Counting.{Counting}
use Rattle.laying.proofs.count.Given as goal

abbrev pub invariant-loop-at : goal.invariant-loop-at
invariant-loop-at l = Counting (keys_of l.table l.l l.f) l.bytes l.at l.many l.last

abbrev pub decreases-loop-at : goal.decreases-loop-at
decreases-loop-at l = length l.bytes - l.at
