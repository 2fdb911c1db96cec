-- `varint::take_by` meets its contract: the loop's invariant is `Reading`.
-- Assumes nothing.
use Rattle.varint.proofs.Reading.{Reading}
use Rattle.varint.proofs.take_by.Given as goal

abbrev pub invariant-loop-i : goal.invariant-loop-i
invariant-loop-i l = Reading l.part l.most l.last l.value l.scale l.i
