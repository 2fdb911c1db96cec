-- The cycle of calls: an item, one with children, the rounds of the stretch that follows it, one round. The node's number falls from an item to those of its stretch.
-- Assumes nothing.
use mathlib.Core.Path.{◌≡◌}
use Prim.Native.Nat.{◌+◌, ◌*◌, ◌-◌}
use lib.ListN.{length}
use Rattle.wire.specs.Reading.{head_by, reading}
use Rattle.table.specs.Parts.{Falls, row_step, rounds_step}
use Rattle.read_item.specs.Lay.{lay}
use Rattle.read_item.specs.Steps.{spot}
use Rattle.reader.proofs.+read_inner_read_item_read_rounds_read_stretch.Given as goal

abbrev pub decreases-read_inner : goal.decreases-read_inner
decreases-read_inner l = l.node * 4 + 2

abbrev pub decreases-read_item : goal.decreases-read_item
decreases-read_item l = l.node * 4 + 3

abbrev pub decreases-read_rounds : goal.decreases-read_rounds
decreases-read_rounds l = l.node * 4 + 1

abbrev pub decreases-read_stretch : goal.decreases-read_stretch
decreases-read_stretch l = l.node * 4 + 0

-- ---- the rounds
abbrev pub invariant-read_rounds-loop-left : goal.invariant-read_rounds-loop-left
invariant-read_rounds-loop-left l = (lay l.room (rounds_step (reading (head_by l.strict)) l.table l.l l.rounds l.headed l.from l.width (spot l.part l.place)) l.made l.initial.store ≡ lay l.room (rounds_step (reading (head_by l.strict)) l.table l.l l.left l.headed l.from l.width (spot l.rest l.at)) l.sofar l.store)
    × (l.at + length l.rest ≡ l.place + length l.part)
    × (length l.store ≡ length l.initial.store)

abbrev pub decreases-read_rounds-loop-left : goal.decreases-read_rounds-loop-left
decreases-read_rounds-loop-left l = l.left

-- ---- a stretch
abbrev pub invariant-read_stretch-loop-left : goal.invariant-read_stretch-loop-left
invariant-read_stretch-loop-left l = (lay l.room (row_step (reading (head_by l.strict)) l.table l.l l.from l.width (spot l.part l.place)) l.made l.initial.store ≡ lay l.room (row_step (reading (head_by l.strict)) l.table l.l l.child l.left (spot l.rest l.at)) l.sofar l.store)
    × Falls l.table l.child l.left l.node
    × (l.at + length l.rest ≡ l.place + length l.part)
    × (length l.store ≡ length l.initial.store)

abbrev pub decreases-read_stretch-loop-left : goal.decreases-read_stretch-loop-left
decreases-read_stretch-loop-left l = l.left
