-- `write_item::fits_rest` meets its contract: a text and bytes by the pool, and any other by its first word, where the second is 0.
-- Assumes nothing.
use mathlib.Core.Path.{◌≡◌}
use native.Mathlib.Omega.{arith}
use borrow.Author.Tests.{ne_eqb}
use Rattle.write_item.proofs.Judging.{no_second, not-pooled, judges-text, judges-bytes}
use Rattle.write_item.proofs.fits_rest.Goals as goal

pub fits_other-requires : goal.fits_other-requires
fits_other-requires c = record { leaf = c.requires.leaf; le_number = c.requires.le_number; number_value = not-pooled _ c.requires.leaf.small (λ l h. omega arith) }

pub returns-then-second-eq0 : goal.returns-then-second-eq0
returns-then-second-eq0 c = let e : c.args.second ≡ 0 = omega arith in rw e ((c.fits_other.ensures.with 0).at _)

pub returns-in-12 : goal.returns-in-12
returns-in-12 c = judges-text _ _ _ _ _ (omega arith) c.fits_part.ensures

pub returns-in-13 : goal.returns-in-13
returns-in-13 c = judges-bytes _ _ _ _ _ (omega arith) c.fits_part-in-13.ensures

pub returns-else-second-eq0 : goal.returns-else-second-eq0
returns-else-second-eq0 c = rw (ne_eqb _ _ c.if-second-eq0.false) (no_second _ _ _ _ _ (not-pooled _ c.requires.leaf.small (λ l h. omega arith)) (λ e. omega arith))
