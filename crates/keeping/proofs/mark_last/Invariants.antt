-- `keeping::mark_last` meets its contract. The loop's invariant: what the rows in front of the last one mark is marked, and the others' marks are still to come.
-- Assumes nothing.
use mathlib.Core.Path.{◌≡◌}
use lib.ListN.{length}
use Rattle.keeping.proofs.Lasting.{Lasting}
use Rattle.keeping.proofs.mark_last.Given as goal

abbrev pub invariant-loop-i : goal.invariant-loop-i
invariant-loop-i l = Lasting l.rows l.base l.area l.last l.i × (length l.area ≡ length l.initial.area)
