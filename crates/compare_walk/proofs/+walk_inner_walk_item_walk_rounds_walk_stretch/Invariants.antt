-- The cycle of calls: an item, one with children, the rounds of the stretch that follows it, one round. The node's number falls from an item to those of its stretch.
-- Assumes nothing.
use mathlib.Core.Path.{◌≡◌}
use Prim.Native.Nat.{◌+◌, ◌*◌, ◌≤◌}
use lib.ListN.{length}
use Rattle.table.specs.Parts.{Falls, row_step, rounds_step}
use Rattle.read_item.specs.Steps.{spot}
use Rattle.desk.specs.Path.{most_entries}
use Rattle.desk.specs.Differ.{beside}
use Rattle.beside.specs.Meeting.{meeting}
use Rattle.compare_walk.specs.Steps.{lay}
use Rattle.compare_walk.proofs.+walk_inner_walk_item_walk_rounds_walk_stretch.Given as goal

abbrev pub decreases-walk_inner : goal.decreases-walk_inner
decreases-walk_inner l = l.node * 4 + 2

abbrev pub decreases-walk_item : goal.decreases-walk_item
decreases-walk_item l = l.node * 4 + 3

abbrev pub decreases-walk_rounds : goal.decreases-walk_rounds
decreases-walk_rounds l = l.node * 4 + 1

abbrev pub decreases-walk_stretch : goal.decreases-walk_stretch
decreases-walk_stretch l = l.node * 4 + 0

-- ---- the rounds
abbrev pub invariant-walk_rounds-loop-turns : goal.invariant-walk_rounds-loop-turns
invariant-walk_rounds-loop-turns l = (lay most_entries (rounds_step meeting l.table l.l l.rounds l.way.headed l.way.from l.way.width (beside (spot l.part l.fn.at.one) (spot l.other l.fn.at.other))) l.fn.at.ones l.fn.at.others l.fn.at.count l.initial.list ≡ lay most_entries (rounds_step meeting l.table l.l l.turns l.way.headed l.way.from l.way.width (beside (spot l.rest l.now.one) (spot l.left l.now.other))) l.now.ones l.now.others l.now.count l.list)
    × (l.now.one + length l.rest ≡ l.fn.at.one + length l.part)
    × (l.now.other + length l.left ≡ l.fn.at.other + length l.other)
    × (l.now.count ≤ l.now.ones)
    × (length l.list ≡ length l.initial.list)

abbrev pub decreases-walk_rounds-loop-turns : goal.decreases-walk_rounds-loop-turns
decreases-walk_rounds-loop-turns l = l.turns

-- ---- a stretch
abbrev pub invariant-walk_stretch-loop-turns : goal.invariant-walk_stretch-loop-turns
invariant-walk_stretch-loop-turns l = (lay most_entries (row_step meeting l.table l.l l.from l.width (beside (spot l.part l.fn.at.one) (spot l.other l.fn.at.other))) l.fn.at.ones l.fn.at.others l.fn.at.count l.initial.list ≡ lay most_entries (row_step meeting l.table l.l l.child l.turns (beside (spot l.rest l.now.one) (spot l.left l.now.other))) l.now.ones l.now.others l.now.count l.list)
    × Falls l.table l.child l.turns l.node
    × (l.now.one + length l.rest ≡ l.fn.at.one + length l.part)
    × (l.now.other + length l.left ≡ l.fn.at.other + length l.other)
    × (l.now.count ≤ l.now.ones)
    × (length l.list ≡ length l.initial.list)

abbrev pub decreases-walk_stretch-loop-turns : goal.decreases-walk_stretch-loop-turns
decreases-walk_stretch-loop-turns l = l.turns
