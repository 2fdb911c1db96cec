-- `put_row::put_row` meets its contract: the loop's invariant is that what is laid and what is left to lay are the row.
-- Assumes nothing.
use Rattle.put_row.proofs.Telling.{GoingAt}
use Rattle.put_row.proofs.put_row.Given as goal

abbrev pub invariant-loop-i : goal.invariant-loop-i
invariant-loop-i l = GoingAt l.table l.message l.l l.fields.from l.fields.width l.initial.out l.i l.laid.place l.laid.len l.out
