-- `put_number::digits` meets its contract: the loop's invariant is that the digits counted and those left are the number's.
-- Assumes nothing.
use native.Mathlib.Omega.{arith}
use Rattle.put_number.proofs.Decimals.{counting-begin, counting_more, counting-few, counting-end, few-digits, two_digits, three-digits, four-digits}
use Rattle.put_number.proofs.digits.Goals as goal

pub loop-rest-init : goal.loop-rest-init
loop-rest-init c = counting-begin _ c.ranges.x.fits

pub overflow_add-n : goal.overflow_add-n
overflow_add-n c = omega (arith, counting-few c.loop-rest.invariant)

pub loop-rest-preserved : goal.loop-rest-preserved
loop-rest-preserved c = counting_more c.loop-rest.invariant c.loop-rest-test.true

pub returns-then-rest-lt10 : goal.returns-then-rest-lt10
returns-then-rest-lt10 c = omega (arith, counting-end 0 c.loop-rest.invariant (few-digits _ (omega arith)))

pub overflow_add-result : goal.overflow_add-result
overflow_add-result c = omega (arith, counting-few c.loop-rest.invariant)

pub returns-then-rest-lt100 : goal.returns-then-rest-lt100
returns-then-rest-lt100 c = counting-end 1 c.loop-rest.invariant (two_digits _ (omega arith) (omega arith))

pub overflow_add-result-then-rest-lt1000 : goal.overflow_add-result-then-rest-lt1000
overflow_add-result-then-rest-lt1000 c = omega (arith, counting-few c.loop-rest.invariant)

pub returns-then-rest-lt1000 : goal.returns-then-rest-lt1000
returns-then-rest-lt1000 c = counting-end 2 c.loop-rest.invariant (three-digits _ (omega arith) (omega arith))

pub overflow_add-result-2 : goal.overflow_add-result-2
overflow_add-result-2 c = omega (arith, counting-few c.loop-rest.invariant)

pub returns : goal.returns
returns c = counting-end 3 c.loop-rest.invariant (four-digits _ (omega arith) (omega arith))
