-- `decoder::decode` meets its contract: group by group, what is made and what is left make the message.
-- Assumes nothing.
use Prim.Native.Nat.{◌-◌}
use native.Mathlib.Nat.{le-add_right}
use mathlib.Core.Path.{sym, ◌∙◌}
use Rattle.decoder.proofs.Decoding.{decoding-none, decoding-long, decoding-end, some-code, to-fits, next-inside, closer, end-inside, len-fits, group-closer, decoding-short, part-long, decoding-more, decoding-empty, decoding-one, decoding-cut, one-fits, one_inside, one-closer}
use native.Mathlib.Omega.{arith}
use Rattle.decoder.proofs.decode.Goals as goal

pub loop-i-init : goal.loop-i-init
loop-i-init c = decoding-none c.requires

pub bounds-frame-i : goal.bounds-frame-i
bounds-frame-i c = c.loop-i-test.true

pub overflow_add-to : goal.overflow_add-to
overflow_add-to c = record { fits = to-fits c.loop-i.invariant c.loop-i-test.true }

pub loop-i-smaller-then-code-eq1 : goal.loop-i-smaller-then-code-eq1
loop-i-smaller-then-code-eq1 c = closer c.loop-i.invariant c.loop-i-test.true

pub loop-i-preserved-then-code-eq1 : goal.loop-i-preserved-then-code-eq1
loop-i-preserved-then-code-eq1 c = rw c.gap_after-after.ensures (decoding-empty c.loop-i.invariant c.loop-i-test.true c.if-code-eq1.true)

pub shape_of-message-then-from-frame : goal.shape_of-message-then-from-frame
shape_of-message-then-from-frame c = decoding-long c.loop-i.invariant ∙ sym (decoding-long (decoding-none c.requires))

pub returns-then-from-frame : goal.returns-then-from-frame
returns-then-from-frame c = decoding-cut c.loop-i.invariant c.loop-i-test.true c.if-code-eq2.true c.if-from-frame.true

pub bounds-message-to : goal.bounds-message-to
bounds-message-to c = one_inside c.loop-i.invariant c.loop-i-test.true c.if-from-frame.false

pub overflow_add-len : goal.overflow_add-len
overflow_add-len c = record { fits = one-fits c.loop-i.invariant c.loop-i-test.true c.if-from-frame.false }

pub loop-i-smaller-then-code-eq2 : goal.loop-i-smaller-then-code-eq2
loop-i-smaller-then-code-eq2 c = one-closer c.loop-i.invariant c.loop-i-test.true c.if-from-frame.false

pub loop-i-preserved-then-code-eq2 : goal.loop-i-preserved-then-code-eq2
loop-i-preserved-then-code-eq2 c = rw c.gap_after-after.ensures (decoding-one c.loop-i.invariant c.loop-i-test.true c.if-code-eq2.true c.if-from-frame.false)

pub overflow_cast-count : goal.overflow_cast-count
overflow_cast-count c = omega (arith, c.shared_slice_known-in-loop-i-1.given c.loop-i.i)

pub overflow_sub-count : goal.overflow_sub-count
overflow_sub-count c = some-code c.loop-i.invariant c.loop-i-test.true

pub overflow_sub-frame : goal.overflow_sub-frame
overflow_sub-frame c = next-inside c.loop-i.invariant c.loop-i-test.true

pub shape_of-message-then-frame-from : goal.shape_of-message-then-frame-from
shape_of-message-then-frame-from c = decoding-long c.loop-i.invariant ∙ sym (decoding-long (decoding-none c.requires))

pub returns-then-frame-from : goal.returns-then-frame-from
returns-then-frame-from c = decoding-short c.loop-i.invariant c.loop-i-test.true c.if-frame-from.true

pub slice_bounds-put_bytes-count : goal.slice_bounds-put_bytes-count
slice_bounds-put_bytes-count c = le-add_right _ _

pub slice_bounds-put_bytes-start : goal.slice_bounds-put_bytes-start
slice_bounds-put_bytes-start c = le-add_right _ _

pub slice_bounds-put_bytes-end : goal.slice_bounds-put_bytes-end
slice_bounds-put_bytes-end c = end-inside c.loop-i.invariant c.loop-i-test.true c.if-frame-from.false

pub put_bytes-requires : goal.put_bytes-requires
put_bytes-requires c = let l = c.loop-i in
    (omega (arith, part-long l.invariant c.loop-i-test.true (omega arith)), decoding-long l.invariant)

pub overflow_add-len-else-code-eq2 : goal.overflow_add-len-else-code-eq2
overflow_add-len-else-code-eq2 c = record { fits = len-fits c.loop-i.invariant c.loop-i-test.true c.if-frame-from.false }

pub loop-i-smaller : goal.loop-i-smaller
loop-i-smaller c = group-closer c.loop-i.invariant c.loop-i-test.true c.if-frame-from.false

pub loop-i-preserved : goal.loop-i-preserved
loop-i-preserved c = rw (c.put_bytes.ensures, c.gap_after-after.ensures) (decoding-more c.loop-i.invariant c.loop-i-test.true c.if-frame-from.false)

pub shape_of-message : goal.shape_of-message
shape_of-message c = decoding-long c.loop-i.invariant ∙ sym (decoding-long (decoding-none c.requires))

pub returns : goal.returns
returns c = decoding-end c.loop-i.invariant c.loop-i-test.false
