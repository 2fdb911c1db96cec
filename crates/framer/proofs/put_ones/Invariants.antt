-- `framer::put_ones` meets its contract: each byte that was passed is a zero, and 01 was put for it.
-- Assumes nothing.
use mathlib.Core.List.{List}
use Prim.Native.Nat.{ℕ, ◌-◌}
use Rattle.framer.specs.Steps.{Filled}
use Rattle.framer.proofs.put_ones.Given as goal

abbrev pub invariant-loop-n : goal.invariant-loop-n
invariant-loop-n l = (start : List ℕ) → Filled l.message l.from start l.to l.initial.n l.initial.out → Filled l.message l.from start l.to l.n l.out

abbrev pub decreases-loop-n : goal.decreases-loop-n
decreases-loop-n l = l.left - l.n
