-- `singles::after_ascii` meets its contract: the loop's invariant is that what is to be said of the rest stays.
-- Assumes nothing.
use native.Mathlib.Omega.{arith}
use borrow.Author.Rules.{rules}
use Rattle.singles.proofs.Passed.{here, one_on, two-on, three-on, four-on}
use Rattle.singles.proofs.after_ascii.Goals as goal

pub loop-i-init : goal.loop-i-init
loop-i-init c = here _ _ (search rules)

pub returns-then-b1-ge128 : goal.returns-then-b1-ge128
returns-then-b1-ge128 c = one_on c.loop-i.invariant (omega arith) (omega arith)

pub returns-then-b2-ge128 : goal.returns-then-b2-ge128
returns-then-b2-ge128 c = two-on c.loop-i.invariant (omega arith) (omega arith) (omega arith)

pub returns-then-b3-ge128 : goal.returns-then-b3-ge128
returns-then-b3-ge128 c = three-on c.loop-i.invariant (omega arith) (omega arith) (omega arith) (omega arith)

pub loop-i-preserved : goal.loop-i-preserved
loop-i-preserved c = four-on c.loop-i.invariant (omega arith) (omega arith) (omega arith) (omega arith) (omega arith) (omega arith)
