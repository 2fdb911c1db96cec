-- `keeping::keep` meets its contract. The loop's invariant: what is kept of the messages so far is in place, and a window is at hand.
-- Assumes nothing.
use Prim.Native.Nat.{◌-◌}
use lib.ListN.{length}
use Rattle.row.specs.Ranks.{rows_in}
use Rattle.starts.specs.Window.{parts_in}
use Rattle.keeping.proofs.Passing.{AtHand}
use Rattle.keeping.proofs.Keeping.{Keeping}
use Rattle.keeping.proofs.keep.Given as goal

abbrev pub invariant-loop-at : goal.invariant-loop-at
invariant-loop-at l = Keeping (parts_in l.table l.l l.f l.front l.rows) l.initial.out l.len l.at l.to l.many l.out × AtHand (rows_in l.rows) l.base l.at (length l.initial.area) l.area

abbrev pub decreases-loop-at : goal.decreases-loop-at
decreases-loop-at l = length l.front - l.at
