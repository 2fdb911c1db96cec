-- `take_row::take_row` meets its contract: the loop's invariant is that what is laid and what is left to take are the message.
-- Assumes nothing.
use Rattle.take_row.proofs.Rows.{GoingAt}
use Rattle.take_row.proofs.take_row.Given as goal

abbrev pub invariant-loop-i : goal.invariant-loop-i
invariant-loop-i l = GoingAt l.table l.row l.l l.fields.from l.fields.width l.initial.out l.i l.taken.at l.taken.len l.out
