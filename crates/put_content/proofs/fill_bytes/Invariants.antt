-- `put_content::fill_bytes` meets its contract: the loop's invariant is that the bytes from `i` on are left.
-- Assumes nothing.
use Prim.Native.Nat.{◌-◌, ◌≤◌}
use lib.ListN.{length}
use Rattle.put_content.proofs.Undoing.{Filling}
use Rattle.put_content.specs.Undone.{unhexed}
use Rattle.put_content.proofs.fill_bytes.Given as goal

abbrev pub invariant-loop-i : goal.invariant-loop-i
invariant-loop-i l = Filling unhexed l.bytes l.from l.initial.out l.i l.to l.out × (l.i ≤ length l.bytes)

abbrev pub decreases-loop-i : goal.decreases-loop-i
decreases-loop-i l = length l.bytes - l.i
