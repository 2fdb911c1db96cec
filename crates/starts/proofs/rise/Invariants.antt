-- `starts::rise` meets its contract. The loop's invariant: the rows from the last one on decide.
-- Assumes nothing.
use Rattle.starts.proofs.Rises.{Rising}
use Rattle.starts.proofs.rise.Given as goal

abbrev pub invariant-loop-i : goal.invariant-loop-i
invariant-loop-i l = Rising l.rows l.last l.i
