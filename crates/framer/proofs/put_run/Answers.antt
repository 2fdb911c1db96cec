-- `framer::put_run` meets its contract: what was put and what the run still has are the group's bytes.
-- Assumes nothing.
use Prim.Native.Nat.{◌-◌}
use native.Mathlib.Omega.{arith}
use Rattle.framer.proofs.Runs.{running-begin, running-long, running-end, running-inside, running-zero, running-room, running-next}
use Rattle.framer.proofs.put_run.Goals as goal

pub overflow_sub-left : goal.overflow_sub-left
overflow_sub-left c = c.requires.within

pub loop-n-init : goal.loop-n-init
loop-n-init c = running-begin c.requires.within c.most_bytes-most.ensures

pub overflow_add-b : goal.overflow_add-b
overflow_add-b c = omega (arith, running-inside c.loop-n.invariant c.loop-n-test.true)

pub bounds-message-from : goal.bounds-message-from
bounds-message-from c = running-inside c.loop-n.invariant c.loop-n-test.true

pub shape_of-out-then-b-eq0 : goal.shape_of-out-then-b-eq0
shape_of-out-then-b-eq0 c = running-long c.loop-n.invariant

pub returns-then-b-eq0 : goal.returns-then-b-eq0
returns-then-b-eq0 c = running-zero c.loop-n.invariant c.loop-n-test.true c.if-b-eq0.true

pub overflow_add-out : goal.overflow_add-out
overflow_add-out c = omega (arith, running-room c.loop-n.invariant c.loop-n-test.true c.if-b-eq0.false c.requires.fits)

pub bounds-out-to : goal.bounds-out-to
bounds-out-to c = running-room c.loop-n.invariant c.loop-n-test.true c.if-b-eq0.false c.requires.fits

pub loop-n-smaller : goal.loop-n-smaller
loop-n-smaller c = omega (arith, c.loop-n-test.true)

pub loop-n-preserved : goal.loop-n-preserved
loop-n-preserved c = running-next c.loop-n.invariant c.loop-n-test.true c.if-b-eq0.false

pub shape_of-out : goal.shape_of-out
shape_of-out c = running-long c.loop-n.invariant

pub returns : goal.returns
returns c = running-end c.loop-n.invariant c.loop-n-test.false
