-- `put_number::fill_decimal` meets its contract: the loop's invariant is that the digits made stand in front of the end, and that those left are to stand in front of them.
-- Assumes nothing.
use native.Mathlib.Omega.{arith}
use lib.ListN.{length-set}
use Rattle.put_number.proofs.Decimals.{filling-begin, filling-long, filling-more, filling-end, filling-end-2, filling-room, filling-room-1}
use Rattle.put_number.proofs.fill_decimal.Goals as goal

pub loop-rest-init : goal.loop-rest-init
loop-rest-init c = filling-begin _ _ _ _ c.requires.0 c.requires.1

pub overflow_sub-out : goal.overflow_sub-out
overflow_sub-out c = omega (arith, filling-room-1 c.loop-rest.invariant)

pub bounds-out-at : goal.bounds-out-at
bounds-out-at c = omega (arith, filling-room-1 c.loop-rest.invariant, filling-long c.loop-rest.invariant, c.loop-rest.invariant.below)

pub overflow_sub-out-in-loop-rest : goal.overflow_sub-out-in-loop-rest
overflow_sub-out-in-loop-rest c = omega (arith, filling-room c.loop-rest.invariant (omega arith))

pub bounds-out-at-in-loop-rest : goal.bounds-out-at-in-loop-rest
bounds-out-at-in-loop-rest c = simp length-set (omega (arith, filling-room c.loop-rest.invariant (omega arith), filling-long c.loop-rest.invariant, c.loop-rest.invariant.below))

pub overflow_sub-at : goal.overflow_sub-at
overflow_sub-at c = omega (arith, filling-room c.loop-rest.invariant (omega arith))

pub loop-rest-preserved : goal.loop-rest-preserved
loop-rest-preserved c = filling-more c.loop-rest.invariant c.loop-rest-test.true

pub overflow_sub-out-then-rest-lt10 : goal.overflow_sub-out-then-rest-lt10
overflow_sub-out-then-rest-lt10 c = omega (arith, filling-room-1 c.loop-rest.invariant)

pub bounds-out-at-then-rest-lt10 : goal.bounds-out-at-then-rest-lt10
bounds-out-at-then-rest-lt10 c = omega (arith, filling-room-1 c.loop-rest.invariant, filling-long c.loop-rest.invariant, c.loop-rest.invariant.below)

pub shape_of-out-then-rest-lt10 : goal.shape_of-out-then-rest-lt10
shape_of-out-then-rest-lt10 c = simp length-set (filling-long c.loop-rest.invariant)

pub returns-then-rest-lt10 : goal.returns-then-rest-lt10
returns-then-rest-lt10 c = filling-end c.loop-rest.invariant c.if-rest-lt10.true

pub overflow_sub-out-2 : goal.overflow_sub-out-2
overflow_sub-out-2 c = omega (arith, filling-room-1 c.loop-rest.invariant)

pub bounds-out-at-2 : goal.bounds-out-at-2
bounds-out-at-2 c = omega (arith, filling-room-1 c.loop-rest.invariant, filling-long c.loop-rest.invariant, c.loop-rest.invariant.below)

pub overflow_sub-out-3 : goal.overflow_sub-out-3
overflow_sub-out-3 c = omega (arith, filling-room c.loop-rest.invariant (omega arith))

pub bounds-out-at-3 : goal.bounds-out-at-3
bounds-out-at-3 c = simp length-set (omega (arith, filling-room c.loop-rest.invariant (omega arith), filling-long c.loop-rest.invariant, c.loop-rest.invariant.below))

pub shape_of-out : goal.shape_of-out
shape_of-out c = simp length-set (filling-long c.loop-rest.invariant)

pub returns : goal.returns
returns c = filling-end-2 c.loop-rest.invariant (omega arith) (omega arith)
