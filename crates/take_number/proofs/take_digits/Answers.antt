-- `take_number::take_digits` meets its contract: the loop's invariant is that what follows from `at` on is all that follows.
-- Assumes nothing.
use mathlib.Core.Path.{sym, ◌∙◌}
use native.Mathlib.Omega.{arith}
use borrow.Author.Tests.{leb-true, leb-false}
use Rattle.take_number.proofs.Figures.{small-digit, going-begin, going-none, going-large, going_on, going-zero}
use Rattle.take_number.proofs.take_digits.Goals as goal

pub loop-x-init : goal.loop-x-init
loop-x-init c = going-begin _ _ _ _ c.requires.0 c.requires.1

pub fits-requires : goal.fits-requires
fits-requires c = small-digit c.in-Some.ensures

pub loop-x-preserved : goal.loop-x-preserved
loop-x-preserved c = going_on c.loop-x.invariant c.in-Some.ensures (omega arith) (leb-true _ _ (sym c.fits.ensures ∙ c.if-fits.true))

pub returns-after-loop-x : goal.returns-after-loop-x
returns-after-loop-x c = going-zero c.loop-x.invariant (omega arith)

pub returns-in_default : goal.returns-in_default
returns-in_default c = going-large c.loop-x.invariant c.in-Some.ensures (leb-false _ _ (sym c.fits.ensures ∙ c.if-fits.false))

pub returns-in_default-2 : goal.returns-in_default-2
returns-in_default-2 c = going-none c.loop-x.invariant (rw c.in_default.is at c.digit.ensures)
