-- `keeping::survey` meets its contract. The loop's invariant: what is kept of the messages so far is counted, and a window is at hand.
-- Assumes nothing.
use Prim.Native.Nat.{◌-◌}
use lib.ListN.{length}
use Rattle.row.specs.Ranks.{rows_in}
use Rattle.starts.specs.Window.{parts_in}
use Rattle.keeping.proofs.Passing.{Passing, AtHand}
use Rattle.keeping.proofs.survey.Given as goal

abbrev pub invariant-loop-at : goal.invariant-loop-at
invariant-loop-at l = Passing (parts_in l.table l.l l.f l.front l.rows) l.at l.count l.len × AtHand (rows_in l.rows) l.base l.at (length l.initial.area) l.area

abbrev pub decreases-loop-at : goal.decreases-loop-at
decreases-loop-at l = length l.front - l.at
