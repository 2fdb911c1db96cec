-- `table::longest_of` meets its contract. The loop's invariant: the longest so far and the chains that are left have the whole's longest.
-- Assumes nothing.
use mathlib.Core.Path.{◌≡◌}
use Prim.Native.Nat.{max}
use Rattle.laws.specs.Chains.{longest_at}
use Rattle.table.specs.Parts.{chain_at, Falls}
use Rattle.table.proofs.longest_of.Given as goal

abbrev pub invariant-loop-left : goal.invariant-loop-left
invariant-loop-left l = (max l.longest (longest_at (chain_at l.chains) l.table l.at l.left) ≡ longest_at (chain_at l.chains) l.table l.from l.count) × Falls l.table l.at l.left l.node

abbrev pub decreases-loop-left : goal.decreases-loop-left
decreases-loop-left l = l.left
