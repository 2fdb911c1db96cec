-- `search::turn` meets its contract. The loop's invariant: the row in front of `low` is not after the key, and the row at `high` is.
-- Assumes nothing.
use mathlib.Core.Path.{refl}
use Prim.Native.Nat.{◌-◌}
use native.Mathlib.Omega.{arith}
use Rattle.row.specs.Ranks.{row_count}
use Rattle.search.proofs.Turning.{turning-begin, turning-up, turning-down, turning-end}
use Rattle.search.proofs.turn.Goals as goal

pub loop-low-init : goal.loop-low-init
loop-low-init c = turning-begin _ _

pub overflow_add-half : goal.overflow_add-half
unfolding row_count
overflow_add-half c = omega (arith, c.loop-low.invariant.inside, c.well_formed.0.1)

pub load-found-requires : goal.load-found-requires
load-found-requires c = omega (arith, c.loop-low.invariant.inside)

pub overflow_add-low : goal.overflow_add-low
unfolding row_count
overflow_add-low c = omega (arith, c.loop-low.invariant.inside, c.well_formed.0.1)

pub loop-low-preserved-then-not_after : goal.loop-low-preserved-then-not_after
loop-low-preserved-then-not_after c = turning-up c.loop-low.invariant c.loop-low-test.true refl c.load-found.ensures c.not_after.ensures c.if-not_after.true

pub loop-low-preserved : goal.loop-low-preserved
loop-low-preserved c = turning-down c.loop-low.invariant c.loop-low-test.true refl c.load-found.ensures c.not_after.ensures c.if-not_after.false

pub returns : goal.returns
returns c = turning-end c.loop-low.invariant c.loop-low-test.false
