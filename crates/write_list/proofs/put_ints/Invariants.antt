-- `write_list::put_ints` meets its contract, which is the loop's invariant: an entry that is ready is the first step of the row that is left.
-- Assumes nothing.
use mathlib.Core.Path.{◌≡◌}
use lib.ListN.{length}
use Rattle.write_list.specs.Steps.{Leads}
use Rattle.write_list.proofs.put_ints.Given as goal

abbrev pub invariant-loop-left : goal.invariant-loop-left
invariant-loop-left l = Leads l.table l.l l.from l.width l.words l.at l.initial.out (record { at = l.i; used = l.n; child = l.field; left = l.left }) l.out × (length l.out ≡ length l.initial.out)

abbrev pub decreases-loop-left : goal.decreases-loop-left
decreases-loop-left l = l.left
