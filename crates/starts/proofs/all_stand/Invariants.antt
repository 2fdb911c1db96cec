-- `starts::all_stand` meets its contract. The loop's invariant: the rows so far stand at their messages, where they lead into the window.
-- Assumes nothing.
use Rattle.messages.specs.Fields.{keys_of}
use Rattle.starts.proofs.Judged.{Placing}
use Rattle.starts.proofs.all_stand.Given as goal

abbrev pub invariant-loop-i : goal.invariant-loop-i
invariant-loop-i l = Placing (keys_of l.table l.l l.f) l.front l.base l.at l.rows l.i
