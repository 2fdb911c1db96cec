-- `parting::go_down` meets its contract: the loop's invariant is that the positions stored are in front of those that follow, and the old node's number falls.
-- Assumes nothing.
use mathlib.Core.Path.{◌≡◌}
use lib.ListN.{length}
use Rattle.append.specs.Compare.{Asked}
use Rattle.parting.proofs.Paths.{Gone}
use Rattle.parting.proofs.go_down.Given as goal

abbrev pub invariant-loop-position : goal.invariant-loop-position
invariant-loop-position l = Gone l.old l.l l.new l.m l.initial.path l.path l.i l.j l.depth × Asked l.old l.l l.i l.new l.m l.j l.area × (length l.area ≡ length l.initial.area)

abbrev pub decreases-loop-position : goal.decreases-loop-position
decreases-loop-position l = l.i
