-- `varint::take_by` meets its contract: the loop's invariant is `Reading`.
-- Assumes nothing.
use native.Mathlib.Nat.{mod-lt}
use native.Mathlib.Omega.{arith}
use lib.Dec.{lit<}
use Rattle.varint.proofs.Reading.{refused, start, at-end, last-good, last-bad, short, again, fits_last, fits_more, fits-scale, part}
use Rattle.varint.proofs.Last.{by_last}
use Rattle.varint.proofs.take_by.Goals as goal

pub returns-then-limit-last : goal.returns-then-limit-last
returns-then-limit-last c = refused _ _ _ (rw c.limit.ensures at c.if-limit-last.true)

pub loop-i-init : goal.loop-i-init
loop-i-init c = start _ _ _ (rw c.limit.ensures at c.if-limit-last.false)

pub returns-then-last-b : goal.returns-then-last-b
returns-then-last-b c =
    last-bad c.loop-i.invariant c.loop-i-test.true c.if-used-most.true c.if-last-b.true

pub overflow_mul-scale : goal.overflow_mul-scale
overflow_mul-scale c =
    omega (arith, fits_last c.loop-i.invariant c.if-used-most.true c.if-last-b.false)

pub overflow_add-value : goal.overflow_add-value
overflow_add-value c =
    omega (arith, fits_last c.loop-i.invariant c.if-used-most.true c.if-last-b.false)

pub returns-then-used-most : goal.returns-then-used-most
returns-then-used-most c =
    rw c.ended.ensures
    (by_last _ _ _ _ _ (last-good c.loop-i.invariant c.loop-i-test.true c.if-used-most.true c.if-last-b.false))

pub overflow_mul-value : goal.overflow_mul-value
overflow_mul-value c = let r = c.loop-i.invariant in
    record { fits = part _ (fits_more r c.if-used-most.false (mod-lt _ (lit< tt))) }

pub overflow_add-value-in-loop-i : goal.overflow_add-value-in-loop-i
overflow_add-value-in-loop-i c = let r = c.loop-i.invariant in
    record { fits = fits_more r c.if-used-most.false (mod-lt _ (lit< tt)) }

pub returns-then-b-lt128 : goal.returns-then-b-lt128
returns-then-b-lt128 c = let r = c.loop-i.invariant in
    rw c.ended-then-b-lt128.ensures
    (by_last _ _ _ _ _ (short r c.loop-i-test.true c.if-used-most.false c.if-b-lt128.true))

pub overflow_mul-scale-in-loop-i : goal.overflow_mul-scale-in-loop-i
overflow_mul-scale-in-loop-i c = omega (arith, fits-scale c.loop-i.invariant c.if-used-most.false)

pub loop-i-preserved : goal.loop-i-preserved
loop-i-preserved c =
    again c.loop-i.invariant c.loop-i-test.true c.if-used-most.false c.if-b-lt128.false

pub returns : goal.returns
returns c = at-end c.loop-i.invariant c.loop-i-test.false
