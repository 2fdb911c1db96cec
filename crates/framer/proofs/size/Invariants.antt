-- `framer::size` meets its contract: what was passed and what is left make the length.
-- Assumes nothing.
use Prim.Native.Nat.{◌-◌}
use lib.ListN.{length}
use Rattle.framer.proofs.Sizing.{Sizing}
use Rattle.framer.proofs.size.Given as goal

abbrev pub invariant-loop-from : goal.invariant-loop-from
invariant-loop-from l = Sizing l.message l.from l.more

abbrev pub decreases-loop-from : goal.decreases-loop-from
decreases-loop-from l = length l.message - l.from
