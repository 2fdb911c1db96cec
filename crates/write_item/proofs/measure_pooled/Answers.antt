-- `write_item::measure_pooled` meets its contract: where no byte has a place, those of a part of the pool are only counted.
-- Assumes nothing.
use mathlib.Core.Path.{refl, sym, ap, ◌∙◌}
use native.Mathlib.Omega.{arith}
use native.Mathlib.Nat.{zero-add}
use borrow.Author.Tests.{leb-true}
use Rattle.laws.proofs.Splits.{both_left}
use Rattle.output.specs.Bytes.{cap}
use Rattle.output.proofs.Counting.{puts-beyond}
use Rattle.write_item.proofs.Judging.{judges-pooled}
use Rattle.write_item.proofs.Spelling.{spells-part, length-form}
use Rattle.write_item.proofs.measure_pooled.Goals as goal

pub returns : goal.returns
returns c = let fits = c.fits_part-fits.ensures in
    let yes = c.if-not-fits.false in
    let inside = leb-true _ _ (both_left _ _ (sym fits ∙ yes)) in
    let form = length-form _ _ _ inside c.size-size.ensures in
    record { holds = (sym (judges-pooled _ _ _ _ 0 c.requires.0 c.requires.1 fits) ∙ yes, spells-part _ _ _ (puts-beyond (omega arith) form (c.add.ensures ∙ ap cap (sym (zero-add _)))) _ c.requires.0 c.requires.1) }

pub returns-then-not-fits : goal.returns-then-not-fits
returns-then-not-fits c = record { holds = (sym (judges-pooled _ _ _ _ 0 c.requires.0 c.requires.1 c.fits_part-fits.ensures) ∙ c.if-not-fits.true, refl) }
