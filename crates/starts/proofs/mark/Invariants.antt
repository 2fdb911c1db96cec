-- `starts::mark` meets its contract. The loop's invariant: the marks are the starts from the window's first place on up to here.
-- Assumes nothing.
use Prim.Native.Nat.{◌-◌}
use lib.ListN.{length}
use Rattle.messages.specs.Fields.{keys_of}
use Rattle.starts.proofs.Windows.{Marking}
use Rattle.starts.proofs.mark.Given as goal

abbrev pub invariant-loop-at : goal.invariant-loop-at
invariant-loop-at l = Marking (keys_of l.table l.l l.f) l.front l.base (length l.initial.area) l.at l.count l.area

abbrev pub decreases-loop-at : goal.decreases-loop-at
decreases-loop-at l = length l.front - l.at
