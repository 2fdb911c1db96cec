-- `put_quoted::has_quote` meets its contract: the loop's invariant is that it is known whether there is a quote in front of the byte `i`.
-- Assumes nothing.
use Prim.Native.Nat.{◌-◌}
use lib.ListN.{length}
use Rattle.put_quoted.proofs.Quoting.{Seeking}
use Rattle.put_quoted.proofs.has_quote.Given as goal

abbrev pub invariant-loop-i : goal.invariant-loop-i
invariant-loop-i l = Seeking l.bytes l.found l.i

abbrev pub decreases-loop-i : goal.decreases-loop-i
decreases-loop-i l = length l.bytes - l.i
