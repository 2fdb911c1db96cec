-- `write_item::fits_leaf` meets its contract: judged, as another leaf, or by its first word, where the second is 0.
-- Assumes nothing.
use mathlib.Core.Path.{◌≡◌, sym}
use native.Mathlib.Omega.{arith}
use Rattle.write_item.proofs.Judging.{no_second, not-pooled}
use Rattle.write_item.proofs.fits_leaf.Goals as goal

pub returns-then-judged : goal.returns-then-judged
returns-then-judged c = sym (c.requires.known.is c.if-judged.true)

pub returns-then-second-eq0 : goal.returns-then-second-eq0
returns-then-second-eq0 c = let e : c.args.second ≡ 0 = omega arith in rw e ((c.fits_int.ensures.with 0).at _)

pub returns : goal.returns
returns c = no_second _ _ _ _ _ (not-pooled _ c.requires.leaf.small (λ l h. omega arith)) (λ e. omega arith)
