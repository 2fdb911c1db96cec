-- `table::first_bad_or_long` meets its contract. The loop's invariant: the check of the nodes that are left is the check, and the chains of those in front are kept.
-- Assumes nothing.
use mathlib.Core.Path.{◌≡◌}
use Prim.Native.Nat.{◌-◌, ◌≤◌}
use lib.ListN.{length}
use Rattle.wire.specs.Table.{second, record_of, check_from}
use Rattle.laws.specs.Chains.{Kept}
use Rattle.table.proofs.first_bad_or_long.Given as goal

abbrev pub invariant-loop-i : goal.invariant-loop-i
invariant-loop-i l = (check_from second l.table l.l 0 l.l.nodes ≡ check_from second l.table l.l l.i (l.l.nodes - l.i)) × (l.i ≤ l.l.nodes) × (l.at ≡ record_of l.l l.i) × Kept l.table l.l l.chains l.i × (length l.chains ≡ length l.initial.chains)

abbrev pub decreases-loop-i : goal.decreases-loop-i
decreases-loop-i l = l.l.nodes - l.i
