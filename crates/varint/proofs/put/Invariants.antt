-- `varint::put` meets its contract: the loop's invariant is `Writing`.
-- Assumes nothing.
use Rattle.varint.proofs.Writing.{Writing}
use Rattle.varint.proofs.put.Given as goal

abbrev pub invariant-loop-rest : goal.invariant-loop-rest
invariant-loop-rest l = Writing l.initial.out l.at l.x l.out l.n l.rest

abbrev pub decreases-loop-rest : goal.decreases-loop-rest
decreases-loop-rest l = l.rest
