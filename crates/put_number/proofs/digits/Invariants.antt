-- `put_number::digits` meets its contract: the loop's invariant is that the digits counted and those left are the number's.
-- Assumes nothing.
use Rattle.put_number.proofs.Decimals.{Counting}
use Rattle.put_number.proofs.digits.Given as goal

abbrev pub invariant-loop-rest : goal.invariant-loop-rest
invariant-loop-rest l = Counting l.x l.n l.rest

abbrev pub decreases-loop-rest : goal.decreases-loop-rest
decreases-loop-rest l = l.rest
