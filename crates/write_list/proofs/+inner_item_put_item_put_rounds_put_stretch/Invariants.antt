-- The cycle of calls meets its contracts: an item, one with children, the rounds of the stretch that follows it, one round. The node's number falls
-- from an item to those of its stretch.
-- Assumes nothing.
use mathlib.Core.Path.{◌≡◌}
use Prim.Native.Nat.{◌+◌, ◌*◌}
use lib.ListN.{length}
use Rattle.wire.specs.Writing.{writing}
use Rattle.table.specs.Parts.{Falls, row_step, rounds_step}
use Rattle.write_list.specs.Steps.{entries, Going}
use Rattle.write_list.proofs.+inner_item_put_item_put_rounds_put_stretch.Given as goal

abbrev pub decreases-inner_item : goal.decreases-inner_item
decreases-inner_item l = l.node * 4 + 2

abbrev pub decreases-put_item : goal.decreases-put_item
decreases-put_item l = l.node * 4 + 3

abbrev pub decreases-put_rounds : goal.decreases-put_rounds
decreases-put_rounds l = l.node * 4 + 1

abbrev pub decreases-put_stretch : goal.decreases-put_stretch
decreases-put_stretch l = l.node * 4

-- ---- the rounds
abbrev pub invariant-put_rounds-loop-left : goal.invariant-put_rounds-loop-left
invariant-put_rounds-loop-left l = Going (rounds_step (writing l.pool) l.table l.l l.rounds l.headed l.from l.width (entries l.words l.at)) (rounds_step (writing l.pool) l.table l.l l.left l.headed l.from l.width (entries l.words l.i)) l.used l.initial.out l.n l.out
    × (length l.out ≡ length l.initial.out)

abbrev pub decreases-put_rounds-loop-left : goal.decreases-put_rounds-loop-left
decreases-put_rounds-loop-left l = l.left

-- ---- one round
abbrev pub invariant-put_stretch-loop-left : goal.invariant-put_stretch-loop-left
invariant-put_stretch-loop-left l = Going (row_step (writing l.pool) l.table l.l l.from l.width (entries l.words l.at)) (row_step (writing l.pool) l.table l.l l.child l.left (entries l.words l.i)) l.used l.initial.out l.n l.out
    × Falls l.table l.child l.left l.node
    × (length l.out ≡ length l.initial.out)

abbrev pub decreases-put_stretch-loop-left : goal.decreases-put_stretch-loop-left
decreases-put_stretch-loop-left l = l.left
