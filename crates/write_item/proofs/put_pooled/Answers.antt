-- `write_item::put_pooled` meets its contract: a part of the pool that is a content has its count in front, and any other is no value's.
-- Assumes nothing.
use mathlib.Core.Path.{refl, sym, ◌∙◌}
use borrow.Author.Tests.{leb-true}
use Rattle.laws.proofs.Splits.{both_left}
use Rattle.write_item.proofs.Judging.{judges-pooled}
use Rattle.write_item.proofs.Spelling.{spells-part}
use Rattle.write_item.proofs.put_pooled.Goals as goal

pub put_part-requires : goal.put_part-requires
put_part-requires c = leb-true _ _ (both_left _ _ (sym c.fits_part-ok.ensures ∙ c.if-not-ok.false))

pub returns : goal.returns
returns c = record { holds = (sym (judges-pooled _ _ _ _ 0 c.requires.0 c.requires.1 c.fits_part-ok.ensures) ∙ c.if-not-ok.false, spells-part _ _ _ c.put_part.ensures _ c.requires.0 c.requires.1) }

pub returns-then-not-ok : goal.returns-then-not-ok
returns-then-not-ok c = record { holds = (sym (judges-pooled _ _ _ _ 0 c.requires.0 c.requires.1 c.fits_part-ok.ensures) ∙ c.if-not-ok.true, refl) }
