-- `table::few_below` meets its contract. The loop's invariant: the numbers that are left decide.
-- Assumes nothing.
use mathlib.Core.Path.{◌≡◌}
use Prim.Native.Nat.{◌+◌, ◌*◌, ◌≤◌}
use lib.ListN.{length}
use Rattle.wire.specs.Table.{below}
use Rattle.table.proofs.few_below.Given as goal

abbrev pub invariant-loop-left : goal.invariant-loop-left
invariant-loop-left l = (below l.table l.node l.at l.left ≡ below l.table l.node l.from l.count) × (l.at + 2 * l.left ≤ length l.table)

abbrev pub decreases-loop-left : goal.decreases-loop-left
decreases-loop-left l = l.left
