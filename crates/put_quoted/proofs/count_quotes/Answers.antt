-- `put_quoted::count_quotes` meets its contract: the loop's invariant is that the quotes in front of the byte `i` are counted.
-- Assumes nothing.
use Prim.Native.Nat.{◌-◌}
use native.Mathlib.Omega.{arith}
use Rattle.put_quoted.proofs.Quoting.{counting-begin, counting-next, counting-end}
use Rattle.put_quoted.proofs.count_quotes.Goals as goal

pub loop-i-init : goal.loop-i-init
loop-i-init c = counting-begin _

pub overflow_add-n : goal.overflow_add-n
overflow_add-n c = omega (arith, c.loop-i.invariant.few, c.loop-i.invariant.inside)

pub loop-i-preserved : goal.loop-i-preserved
loop-i-preserved c = counting-next c.loop-i.invariant c.loop-i-test.true c.more-n.ensures

pub returns : goal.returns
returns c = counting-end c.loop-i.invariant c.loop-i-test.false
