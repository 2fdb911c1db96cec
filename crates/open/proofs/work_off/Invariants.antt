-- `open::work_off` meets its contract: the loop's invariant is that what the open items leave is the whole reading.
-- Assumes nothing.
use mathlib.Core.Path.{◌≡◌}
use lib.ListN.{length}
use Rattle.wire.specs.Reading.{head_by}
use Rattle.read_item.specs.Lay.{lay}
use Rattle.read_item.specs.Steps.{spot}
use Rattle.open.specs.Items.{helds_of, pending, load}
use Rattle.open.proofs.Working.{Working}
use Rattle.open.proofs.work_off.Given as goal

abbrev pub invariant-loop-depth : goal.invariant-loop-depth
invariant-loop-depth l = Working (head_by l.strict) l.room l.table l.l (lay l.room (pending (head_by l.strict) l.table l.l (helds_of l.initial.list 1) (spot l.message 0)) 0 l.initial.store) (length l.message) l.list l.depth l.rest l.at l.sofar l.store × (length l.store ≡ length l.initial.store) × (length l.list ≡ length l.initial.list)

abbrev pub decreases-loop-depth : goal.decreases-loop-depth
decreases-loop-depth l = load l.room l.sofar (helds_of l.list l.depth)
