-- `put_quoted::fill_hexes` meets its contract: the loop's invariant is that the bytes from `i` on are left.
-- Assumes nothing.
use Prim.Native.Nat.{◌-◌}
use lib.ListN.{length}
use Rattle.put_quoted.proofs.Quoting.{Hexing}
use Rattle.put_quoted.proofs.fill_hexes.Given as goal

abbrev pub invariant-loop-i : goal.invariant-loop-i
invariant-loop-i l = Hexing l.bytes l.from l.initial.out l.i l.to l.out

abbrev pub decreases-loop-i : goal.decreases-loop-i
decreases-loop-i l = length l.bytes - l.i
