-- `decoder::put_bytes` meets its contract: the part's first i bytes are pasted into the array.
-- Assumes nothing.
use mathlib.Core.Path.{◌≡◌}
use Prim.Native.Nat.{◌-◌, ◌≤◌}
use lib.ListN.{length}
use lib.Seq.{paste}
use Rattle.decoder.proofs.put_bytes.Given as goal

abbrev pub invariant-loop-i : goal.invariant-loop-i
invariant-loop-i l = (l.array ≡ paste l.initial.array l.at l.part l.i) × (l.i ≤ length l.part) × (length l.array ≡ length l.initial.array)

abbrev pub decreases-loop-i : goal.decreases-loop-i
decreases-loop-i l = length l.part - l.i
