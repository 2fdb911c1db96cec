-- `singles::after_seven` meets its contract: past four single bytes what is to be said of the rest stays.
-- Assumes nothing.
use native.Mathlib.Omega.{arith}
use Rattle.singles.proofs.Passed.{on}
use Rattle.singles.proofs.Highs.{four-ahead}
use Rattle.singles.proofs.after_seven.Goals as goal

pub returns-then-four_single : goal.returns-then-four_single
returns-then-four_single c = on (four-ahead (λ i. (c.type_inv.s i).fits) _ _ (omega arith) (omega arith) c.four_single.ensures c.if-four_single.true) c.after_three.ensures
