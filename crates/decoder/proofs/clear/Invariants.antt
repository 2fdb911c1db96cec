-- `decoder::clear` meets its contract: the first i bytes are zeros.
-- Assumes nothing.
use mathlib.Core.Path.{◌≡◌}
use mathlib.Core.List.{◌++◌}
use Prim.Native.Nat.{◌-◌, ◌≤◌}
use lib.ListN.{length, drop, replicate}
use Rattle.decoder.proofs.clear.Given as goal

abbrev pub invariant-loop-i : goal.invariant-loop-i
invariant-loop-i l = (l.message ≡ replicate l.i 0 ++ drop l.i l.initial.message) × (l.i ≤ length l.initial.message) × (length l.message ≡ length l.initial.message)

abbrev pub decreases-loop-i : goal.decreases-loop-i
decreases-loop-i l = length l.message - l.i
