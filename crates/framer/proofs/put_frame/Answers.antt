-- `framer::put_frame` meets its contract: what was put and the frame of what is left are together the frame.
-- Assumes nothing.
use Prim.Native.Nat.{◌-◌}
use native.Mathlib.Omega.{arith}
use Rattle.framer.proofs.Groups.{framing-begin, framing-long, framing-room, framing-runs, framing-few, framing-inside, framing-code, framing-next, framing-zero, framing-same, framing-full, framing-ended, framing-last, framing-fillable, framing-filled, framing-ones}
use Rattle.framer.proofs.put_frame.Goals as goal

pub loop-out-init : goal.loop-out-init
loop-out-init c = framing-begin _ _

pub overflow_add-to : goal.overflow_add-to
overflow_add-to c = omega (arith, framing-room c.loop-out.invariant c.requires, framing-long c.loop-out.invariant c.requires, c.well_formed.1.0.1)

pub put_run-count-requires : goal.put_run-count-requires
put_run-count-requires c = framing-runs c.loop-out.invariant c.requires

pub overflow_add-end : goal.overflow_add-end
overflow_add-end c = omega (arith, framing-inside c.loop-out.invariant c.requires c.put_run-count.ensures, c.well_formed.0.1)

pub overflow_add-code : goal.overflow_add-code
overflow_add-code c = omega (arith, framing-few c.loop-out.invariant c.requires c.put_run-count.ensures)

pub overflow_cast-code : goal.overflow_cast-code
overflow_cast-code c = omega (arith, framing-few c.loop-out.invariant c.requires c.put_run-count.ensures)

pub bounds-out-at : goal.bounds-out-at
bounds-out-at c = framing-code c.loop-out.invariant c.requires c.put_run-count.ensures

pub overflow_add-next : goal.overflow_add-next
overflow_add-next c = omega (arith, framing-next c.loop-out.invariant c.requires c.put_run-count.ensures, c.well_formed.1.0.1)

pub overflow_add-after : goal.overflow_add-after
overflow_add-after c = omega (arith, framing-inside c.loop-out.invariant c.requires c.put_run-count.ensures, c.well_formed.0.1)

pub bounds-out-next : goal.bounds-out-next
bounds-out-next c = framing-zero c.loop-out.invariant c.requires c.put_run-count.ensures _

pub overflow_add-result : goal.overflow_add-result
overflow_add-result c = omega (arith, framing-next c.loop-out.invariant c.requires c.put_run-count.ensures, c.well_formed.1.0.1)

pub shape_of-out-then-len-end : goal.shape_of-out-then-len-end
shape_of-out-then-len-end c = framing-same c.loop-out.invariant c.requires c.put_run-count.ensures _ _ _

pub returns-then-len-end : goal.returns-then-len-end
returns-then-len-end c = framing-last c.loop-out.invariant c.requires c.put_run-count.ensures (omega (arith, c.if-len-end.true))

pub loop-out-smaller-then-count-eq-FULL : goal.loop-out-smaller-then-count-eq-FULL
loop-out-smaller-then-count-eq-FULL c = omega (arith, c.if-count-eq-FULL.true, c.if-len-end.false)

pub loop-out-preserved-then-count-eq-FULL : goal.loop-out-preserved-then-count-eq-FULL
loop-out-preserved-then-count-eq-FULL c = framing-full c.loop-out.invariant c.requires c.put_run-count.ensures (omega (arith, c.if-len-end.false)) c.if-count-eq-FULL.true

pub put_ones-ones-requires : goal.put_ones-ones-requires
put_ones-ones-requires c = framing-fillable (framing-ended c.loop-out.invariant c.requires c.put_run-count.ensures (omega (arith, c.if-len-end.false)) c.if-count-eq-FULL.false) c.requires

pub overflow_add-from : goal.overflow_add-from
overflow_add-from c = omega (arith, c.put_ones-ones.ensures.inside, c.well_formed.0.1)

pub overflow_add-at : goal.overflow_add-at
overflow_add-at c = omega (arith, framing-filled (framing-ended c.loop-out.invariant c.requires c.put_run-count.ensures (omega (arith, c.if-len-end.false)) c.if-count-eq-FULL.false) c.requires c.put_ones-ones.ensures, c.well_formed.1.0.1)

pub loop-out-smaller-then-count-eq0 : goal.loop-out-smaller-then-count-eq0
loop-out-smaller-then-count-eq0 c = omega (arith, c.if-len-end.false)

pub loop-out-preserved-then-count-eq0 : goal.loop-out-preserved-then-count-eq0
loop-out-preserved-then-count-eq0 c = framing-ones (framing-ended c.loop-out.invariant c.requires c.put_run-count.ensures (omega (arith, c.if-len-end.false)) c.if-count-eq-FULL.false) c.requires c.put_ones-ones.ensures

pub loop-out-smaller : goal.loop-out-smaller
loop-out-smaller c = omega (arith, c.if-len-end.false)

pub loop-out-preserved : goal.loop-out-preserved
loop-out-preserved c = framing-ended c.loop-out.invariant c.requires c.put_run-count.ensures (omega (arith, c.if-len-end.false)) c.if-count-eq-FULL.false
