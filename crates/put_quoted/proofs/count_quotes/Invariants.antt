-- `put_quoted::count_quotes` meets its contract: the loop's invariant is that the quotes in front of the byte `i` are counted.
-- Assumes nothing.
use Prim.Native.Nat.{◌-◌}
use lib.ListN.{length}
use Rattle.put_quoted.proofs.Quoting.{Counting}
use Rattle.put_quoted.proofs.count_quotes.Given as goal

abbrev pub invariant-loop-i : goal.invariant-loop-i
invariant-loop-i l = Counting l.bytes l.n l.i

abbrev pub decreases-loop-i : goal.decreases-loop-i
decreases-loop-i l = length l.bytes - l.i
