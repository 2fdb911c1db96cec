-- `starts::by_windows` meets its contract. The loop's invariant: the rows that lead in front of the next window stand at their messages.
-- Assumes nothing.
use mathlib.Core.Path.{◌≡◌}
use Prim.Native.Nat.{◌-◌}
use lib.ListN.{length}
use Rattle.starts.specs.Window.{parts_in}
use Rattle.starts.proofs.Judged.{Judging}
use Rattle.starts.proofs.by_windows.Given as goal

abbrev pub invariant-loop-base : goal.invariant-loop-base
invariant-loop-base l = Judging (parts_in l.table l.l l.f l.front l.rows) l.base l.count × (length l.area ≡ length l.initial.area)

abbrev pub decreases-loop-base : goal.decreases-loop-base
decreases-loop-base l = length l.front - l.base
