-- `compare::put_front` meets its contract. The loop's invariant: the words in front are put, and the others are as before.
-- Assumes nothing.
use Rattle.compare.proofs.Words.{Front}
use Rattle.compare.proofs.put_front.Given as goal

abbrev pub invariant-loop-i : goal.invariant-loop-i
invariant-loop-i l = Front l.initial.list l.words l.count l.list l.i
