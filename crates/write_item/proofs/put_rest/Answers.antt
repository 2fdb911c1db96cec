-- `write_item::put_rest` meets its contract, by the ranges of the match.
-- Assumes nothing.
use native.Mathlib.Omega.{arith}
use Rattle.fixint.specs.Sizes.{order_of}
use Rattle.output.proofs.Counting.{puts_none}
use Rattle.write_item.proofs.Spelling.{fits-char, fits-part, spells-f32, spells-f64, spells-char, spells-unit, spells-part, spells-little, spells-big}
use Rattle.write_item.proofs.put_rest.Goals as goal

pub put_char-requires : goal.put_char-requires
put_char-requires c = fits-char _ _ _ _ c.in-11.is c.requires.fits

pub put_part-requires : goal.put_part-requires
put_part-requires c = fits-part _ _ _ _ (omega arith) (omega arith) c.requires.fits

pub returns-in-9 : goal.returns-in-9
unfolding order_of
returns-in-9 c = (spells-f32 _ c.in-9.is c.put_sixth.ensures).with _ _

pub returns-in-10 : goal.returns-in-10
unfolding order_of
returns-in-10 c = (spells-f64 _ c.in-10.is c.put_sixth-in-10.ensures).with _ _

pub returns-in-11 : goal.returns-in-11
returns-in-11 c = (spells-char _ c.in-11.is c.put_char.ensures).with _ _

pub returns-in-14 : goal.returns-in-14
returns-in-14 c = (spells-unit c.args.number c.in-14.is (puts_none c.args.used c.args.out.now (omega arith))).with _ _

pub returns-in-12 : goal.returns-in-12
returns-in-12 c = spells-part _ _ _ c.put_part.ensures _ (omega arith) (omega arith)

pub returns-in-20-to-25 : goal.returns-in-20-to-25
unfolding order_of
returns-in-20-to-25 c = (spells-little c.args.number (omega arith) (omega arith) c.put_sixth-in-20-to-25.ensures).with _ _

pub returns-in-26-to-31 : goal.returns-in-26-to-31
unfolding order_of
returns-in-26-to-31 c = (spells-big c.args.number (omega arith) (omega arith) c.put_sixth-in-26-to-31.ensures).with _ _

pub returns-in_default : goal.returns-in_default
returns-in_default c = absurd (omega arith)

pub returns-in_default-2 : goal.returns-in_default-2
returns-in_default-2 c = absurd (c.requires.leaf.outer (omega arith, omega arith))

pub returns-in_default-3 : goal.returns-in_default-3
returns-in_default-3 c = absurd (omega (arith, c.requires.leaf.small))
