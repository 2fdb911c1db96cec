-- `output::put_inside` meets its contract: the loop's invariant is that of `varint::put`.
-- Assumes nothing.
use Rattle.output.proofs.Varints.{Inside}
use Rattle.output.proofs.put_inside.Given as goal

abbrev pub invariant-loop-rest : goal.invariant-loop-rest
invariant-loop-rest l = Inside l.initial.out l.used l.x l.out l.at l.rest

abbrev pub decreases-loop-rest : goal.decreases-loop-rest
decreases-loop-rest l = l.rest
