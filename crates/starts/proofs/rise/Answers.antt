-- `starts::rise` meets its contract. The loop's invariant: the rows from the last one on decide.
-- Assumes nothing.
use Prim.Native.Nat.{◌-◌}
use Rattle.row.specs.Ranks.{row_count}
use Rattle.starts.proofs.Rises.{rising_none, rising-begin, rising-stop, rising-next, rising-end}
use native.Mathlib.Omega.{arith}
use Rattle.starts.proofs.rise.Goals as goal

pub returns-then-count-eq0 : goal.returns-then-count-eq0
returns-then-count-eq0 c = rising_none _ c.if-count-eq0.true

pub load-last-requires : goal.load-last-requires
unfolding row_count
load-last-requires c = omega (arith, c.if-count-eq0.false)

pub loop-i-init : goal.loop-i-init
loop-i-init c = rising-begin c.if-count-eq0.false c.load-last.ensures

pub load-next-requires : goal.load-next-requires
unfolding row_count
load-next-requires c = omega arith

pub below-requires : goal.below-requires
below-requires c = (c.loop-i.invariant.at.fits, c.load-next.ensures.fits)

pub returns-then-not-below : goal.returns-then-not-below
unfolding row_count
returns-then-not-below c = rising-stop c.loop-i.invariant c.loop-i-test.true c.load-next.ensures c.below.ensures c.if-not-below.true

pub loop-i-preserved : goal.loop-i-preserved
unfolding row_count
loop-i-preserved c = rising-next c.loop-i.invariant c.loop-i-test.true c.load-next.ensures c.below.ensures c.if-not-below.false

pub returns : goal.returns
unfolding row_count
returns c = rising-end c.loop-i.invariant c.loop-i-test.false
