-- `open::read_leaves` meets its contract: the loop's invariant is that what is left of the row is what is left of the reading.
-- Assumes nothing.
use mathlib.Core.Path.{◌≡◌}
use Prim.Native.Nat.{◌-◌}
use lib.ListN.{length, drop}
use Rattle.wire.specs.Reading.{head_by}
use Rattle.open.specs.Steps.{last_from, Passes}
use Rattle.open.proofs.read_leaves.Given as goal

abbrev pub invariant-loop-left : goal.invariant-loop-left
invariant-loop-left l = Passes (head_by l.strict) l.room l.table l.l l.from l.width l.part l.place l.made l.initial.store l.left l.at l.sofar l.store × (l.child ≡ last_from l.from l.width l.left) × (l.rest ≡ drop (l.at - l.place) l.part) × (length l.store ≡ length l.initial.store)

abbrev pub decreases-loop-left : goal.decreases-loop-left
decreases-loop-left l = l.left
