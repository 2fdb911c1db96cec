-- `recorded::memory::put` meets its contract: what is left of the part, put where the loop stands, gives the whole.
-- Assumes nothing.
use mathlib.Core.Path.{refl}
use Prim.Native.Nat.{◌-◌}
use native.Mathlib.Omega.{arith}
use lib.ListN.{length-set}
use Rattle.recorded.proofs.Puts.{puts-more, puts-full, puts-all}
use Rattle.recorded.proofs.memory.put.Goals as goal

pub loop-byte-init : goal.loop-byte-init
loop-byte-init c = (record { within = omega arith; same = refl }, refl)

pub shape_of-memory-then-memory-at : goal.shape_of-memory-then-memory-at
shape_of-memory-then-memory-at c = c.loop-byte.invariant.1

pub returns-then-memory-at : goal.returns-then-memory-at
returns-then-memory-at c = puts-full c.loop-byte.invariant.0 c.if-memory-at.true

pub loop-byte-preserved : goal.loop-byte-preserved
loop-byte-preserved c = (puts-more c.loop-byte.invariant.0 c.loop-byte-test.true, simp length-set c.loop-byte.invariant.1)

pub shape_of-memory : goal.shape_of-memory
shape_of-memory c = c.loop-byte.invariant.1

pub returns : goal.returns
returns c = puts-all c.loop-byte.invariant.0 c.loop-byte-test.false
