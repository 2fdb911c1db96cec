-- `singles::after_eights` meets its contract: the loop's invariant is that what is to be said of the rest stays.
-- Assumes nothing.
use mathlib.Core.Path.{refl}
use native.Mathlib.Omega.{arith}
use borrow.Author.Rules.{rules}
use Rattle.singles.proofs.Passed.{here}
use Rattle.singles.proofs.Highs.{eight-on}
use Rattle.singles.proofs.after_eights.Goals as goal

pub loop-i-init : goal.loop-i-init
loop-i-init c = here _ _ (search rules)

pub loop-i-preserved : goal.loop-i-preserved
loop-i-preserved c = eight-on (λ i. (c.type_inv.s i).fits) c.loop-i.invariant _ refl (omega arith) c.eight_single.ensures c.if-not-eight_single.false
