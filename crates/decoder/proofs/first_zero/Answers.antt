-- `decoder::first_zero` meets its contract: no byte that was passed is zero.
-- Assumes nothing.
use Prim.Native.Nat.{◌-◌}
use Rattle.decoder.proofs.Search.{seeks-more, seeks-at, seeks-end}
use Rattle.decoder.proofs.first_zero.Goals as goal

pub loop-i-init : goal.loop-i-init
loop-i-init c = c.near_zero-i.ensures

pub returns-then-s-i-eq0 : goal.returns-then-s-i-eq0
returns-then-s-i-eq0 c = seeks-at c.loop-i.invariant c.loop-i-test.true c.if-s-i-eq0.true

pub loop-i-preserved : goal.loop-i-preserved
loop-i-preserved c = seeks-more c.loop-i.invariant c.loop-i-test.true c.if-s-i-eq0.false

pub returns : goal.returns
returns c = seeks-end c.loop-i.invariant c.loop-i-test.false
