-- `framer::put_eights` meets its contract: each eight that were passed are zeros, and eight times 01 were put for them.
-- Assumes nothing.
use mathlib.Core.Path.{◌≡◌}
use Prim.Native.Nat.{◌+◌}
use lib.ListN.{length}
use Rattle.framer.specs.Steps.{Filled}
use Rattle.framer.proofs.put_eights.Given as goal

abbrev pub invariant-loop-left : goal.invariant-loop-left
invariant-loop-left l = Filled l.message l.from l.initial.out l.to l.n l.out × (l.from + l.n + l.left ≡ length l.message)

abbrev pub decreases-loop-left : goal.decreases-loop-left
decreases-loop-left l = l.left
