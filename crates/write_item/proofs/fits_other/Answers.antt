-- `write_item::fits_other` meets its contract, by the ranges of the match. Every word is below 2^64.
-- Assumes nothing.
use mathlib.Core.Path.{refl, sym}
use Prim.Native.Nat.{◌^◌}
use native.Mathlib.Omega.{arith}
use borrow.Author.Tests.{lt-ltb}
use Rattle.wire.specs.Tests.{pick}
use Rattle.wire.specs.Numbers.{is_word}
use Rattle.zigzag.specs.Widths.{width_of}
use Rattle.write_item.proofs.Judging.{judges-f32, judges-f64, judges-char, judges-unit, judges-little, judges-big}
use Rattle.write_item.proofs.fits_other.Goals as goal

pub returns-in-9 : goal.returns-in-9
unfolding is_word width_of pick
returns-in-9 c = judges-f32 _ c.in-9.is c.is_unsigned.ensures

pub returns-in-10 : goal.returns-in-10
unfolding is_word
returns-in-10 c = let a = c.args in judges-f64 a.number c.in-10.is (sym (lt-ltb a.first (2 ^ 64) (omega arith)))

pub returns-in-11 : goal.returns-in-11
returns-in-11 c = judges-char _ c.in-11.is c.is_char.ensures

pub returns-in-12-to-14 : goal.returns-in-12-to-14
returns-in-12-to-14 c = judges-unit c.args.number (omega arith) (omega arith) c.requires.number_value refl

pub returns-in-20-to-25 : goal.returns-in-20-to-25
returns-in-20-to-25 c = judges-little c.args.number (omega arith) (omega arith) c.is_sixth.ensures

pub returns-in-26-to-31 : goal.returns-in-26-to-31
returns-in-26-to-31 c = judges-big c.args.number (omega arith) (omega arith) c.is_sixth-in-26-to-31.ensures

pub returns-in_default : goal.returns-in_default
returns-in_default c = absurd (omega arith)

pub returns-in_default-2 : goal.returns-in_default-2
returns-in_default-2 c = absurd (c.requires.leaf.outer (omega arith, omega arith))

pub returns-in_default-3 : goal.returns-in_default-3
returns-in_default-3 c = absurd (omega (arith, c.requires.leaf.small))
