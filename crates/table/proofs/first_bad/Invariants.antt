-- `table::first_bad` meets its contract. The loop's invariant: the check of the nodes that are left is the check.
-- Assumes nothing.
use mathlib.Core.Path.{◌≡◌}
use Prim.Native.Nat.{◌-◌, ◌≤◌}
use Rattle.wire.specs.Table.{first, record_of, check_from}
use Rattle.table.proofs.first_bad.Given as goal

abbrev pub invariant-loop-i : goal.invariant-loop-i
invariant-loop-i l = (check_from first l.table l.l 0 l.l.nodes ≡ check_from first l.table l.l l.i (l.l.nodes - l.i)) × (l.i ≤ l.l.nodes) × (l.at ≡ record_of l.l l.i)

abbrev pub decreases-loop-i : goal.decreases-loop-i
decreases-loop-i l = l.l.nodes - l.i
