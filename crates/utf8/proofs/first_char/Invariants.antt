-- `utf8::first_char` meets its contract: the loop's invariant is `Point`.
-- Assumes nothing.
use Rattle.utf8.proofs.Points.{Point}
use Rattle.utf8.proofs.first_char.Given as goal

abbrev pub invariant-loop-i : goal.invariant-loop-i
invariant-loop-i l = Point l.s l.wide l.value l.i
