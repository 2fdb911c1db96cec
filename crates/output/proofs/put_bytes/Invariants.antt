-- `output::put_bytes` meets its contract: the bytes from `i` on are left, and there is a place for each that is stored.
-- Assumes nothing.
use Rattle.output.proofs.Counting.{Putting}
use Rattle.output.proofs.put_bytes.Given as goal

abbrev pub invariant-loop-i : goal.invariant-loop-i
invariant-loop-i l = Putting l.bytes l.used l.initial.out l.count l.i l.out
