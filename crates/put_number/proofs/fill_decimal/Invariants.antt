-- `put_number::fill_decimal` meets its contract: the loop's invariant is that the digits made stand in front of the end, and that those left are to stand in front of them.
-- Assumes nothing.
use Rattle.put_number.proofs.Decimals.{Filling}
use Rattle.put_number.proofs.fill_decimal.Given as goal

abbrev pub invariant-loop-rest : goal.invariant-loop-rest
invariant-loop-rest l = Filling l.x l.from l.end l.initial.out l.rest l.at l.out

abbrev pub decreases-loop-rest : goal.decreases-loop-rest
decreases-loop-rest l = l.rest
