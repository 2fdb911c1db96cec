-- `singles::after_three` meets its contract: past each single byte what is to be said of the rest stays.
-- Assumes nothing.
use native.Mathlib.Omega.{arith}
use Rattle.singles.proofs.Passed.{here, one_on, two-on, three-on}
use Rattle.singles.proofs.after_three.Goals as goal

pub returns-then-b0-ge128 : goal.returns-then-b0-ge128
returns-then-b0-ge128 c = here _ _ (omega arith)

pub returns-then-b1-ge128 : goal.returns-then-b1-ge128
returns-then-b1-ge128 c = one_on (here _ _ (omega arith)) (omega arith) (omega arith)

pub returns-then-b2-ge128 : goal.returns-then-b2-ge128
returns-then-b2-ge128 c = two-on (here _ _ (omega arith)) (omega arith) (omega arith) (omega arith)

pub returns : goal.returns
returns c = three-on (here _ _ (omega arith)) (omega arith) (omega arith) (omega arith) (omega arith)
