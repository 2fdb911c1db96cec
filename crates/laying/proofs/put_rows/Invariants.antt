-- `laying::put_rows` meets its contract. The loop's invariant: the rows of the messages so far stand in front.
-- Assumes nothing.
use Prim.Native.Nat.{◌-◌}
use lib.ListN.{length}
use Rattle.messages.specs.Fields.{keys_of}
use Rattle.laying.proofs.Filling.{Filling}
use Rattle.laying.proofs.put_rows.Given as goal

abbrev pub invariant-loop-at : goal.invariant-loop-at
invariant-loop-at l = Filling (keys_of l.table l.l l.f) l.bytes l.initial.rows l.at l.many l.rows

abbrev pub decreases-loop-at : goal.decreases-loop-at
decreases-loop-at l = length l.bytes - l.at
