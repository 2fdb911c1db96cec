-- `framer::through_zero` meets its contract: no byte that was passed, from the 254th down, is zero.
-- Assumes nothing.
use native.Mathlib.Omega.{arith}
use Rattle.framer.proofs.Sizing.{seeking-begin, seeking-at, seeking-next, seeking-end}
use Rattle.framer.proofs.through_zero.Goals as goal

pub loop-left-init : goal.loop-left-init
loop-left-init c = seeking-begin _ _

pub returns-then-message-at-eq0 : goal.returns-then-message-at-eq0
returns-then-message-at-eq0 c = seeking-at c.loop-left.invariant c.loop-left-test.true c.if-message-at-eq0.true

pub loop-left-preserved : goal.loop-left-preserved
loop-left-preserved c = seeking-next c.loop-left.invariant c.loop-left-test.true c.if-message-at-eq0.false

pub returns : goal.returns
returns c = seeking-end c.loop-left.invariant (omega arith)
