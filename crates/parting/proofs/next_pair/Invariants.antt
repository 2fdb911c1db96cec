-- `parting::next_pair` meets its contract: the loop's invariant is that the children left decide.
-- Assumes nothing.
use mathlib.Core.Path.{◌≡◌}
use Prim.Native.Nat.{◌+◌}
use lib.ListN.{length}
use Rattle.append.specs.Area.{Sound}
use Rattle.parting.proofs.Steps.{Left}
use Rattle.parting.proofs.next_pair.Given as goal

abbrev pub invariant-loop-olds : goal.invariant-loop-olds
invariant-loop-olds l = Left l.old l.l l.i l.new l.m l.j l.olds l.news l.from l.at l.position × (l.position + l.olds ≡ l.initial.olds) × Sound l.old l.l l.new l.m l.area × (length l.area ≡ length l.initial.area)

abbrev pub decreases-loop-olds : goal.decreases-loop-olds
decreases-loop-olds l = l.olds
