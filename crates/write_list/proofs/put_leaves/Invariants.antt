-- `write_list::put_leaves` meets its contract, which is the loop's invariant: a leaf that was put is the first step of the row that is left.
-- Assumes nothing.
use mathlib.Core.Path.{◌≡◌}
use lib.ListN.{length}
use Rattle.wire.specs.Writing.{writing}
use Rattle.table.specs.Parts.{row_step}
use Rattle.write_list.specs.Steps.{entries, Reaches}
use Rattle.write_list.proofs.put_leaves.Given as goal

abbrev pub invariant-loop-left : goal.invariant-loop-left
invariant-loop-left l = Reaches l.pool l.table l.l (row_step (writing l.pool) l.table l.l l.initial.field l.initial.left (entries l.words l.initial.i)) l.words l.initial.n l.initial.out (record { at = l.i; used = l.n; child = l.field; left = l.left }) l.out × (length l.out ≡ length l.initial.out)

abbrev pub decreases-loop-left : goal.decreases-loop-left
decreases-loop-left l = l.left
