-- `write_item::fits_inner` meets its contract: judged, by its first word, or none where the second is not 0.
-- Assumes nothing.
use mathlib.Core.Path.{◌≡◌, sym}
use native.Mathlib.Omega.{arith}
use Rattle.write_item.proofs.Judging.{no_second, not-pooled}
use Rattle.write_item.proofs.fits_inner.Goals as goal

pub returns-then-judged : goal.returns-then-judged
returns-then-judged c = record { at = λ pool known. sym (known.is c.if-judged.true) }

pub returns-then-second-eq0 : goal.returns-then-second-eq0
returns-then-second-eq0 c = let e : c.args.second ≡ 0 = omega arith in record { at = λ pool known. rw e (c.fits_first.ensures.at pool) }

pub returns : goal.returns
returns c = record { at = λ pool known. no_second _ _ _ _ _ (not-pooled _ (omega arith) (λ l h. omega arith)) (λ e. omega arith) }
