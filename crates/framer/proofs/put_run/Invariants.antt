-- `framer::put_run` meets its contract: what was put and what the run still has are the group's bytes.
-- Assumes nothing.
use Prim.Native.Nat.{◌-◌}
use Rattle.framer.proofs.Runs.{Running}
use Rattle.framer.proofs.put_run.Given as goal

abbrev pub invariant-loop-n : goal.invariant-loop-n
invariant-loop-n l = Running l.message l.from l.initial.out l.to l.most l.n l.out

abbrev pub decreases-loop-n : goal.decreases-loop-n
decreases-loop-n l = l.most - l.n
