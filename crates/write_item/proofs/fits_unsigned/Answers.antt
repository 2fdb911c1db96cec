-- `write_item::fits_unsigned` meets its contract, by the kind.
-- Assumes nothing.
use native.Mathlib.Omega.{arith}
use Rattle.wire.specs.Tests.{pick}
use Rattle.wire.specs.Numbers.{is_word}
use Rattle.zigzag.specs.Widths.{width_of}
use Rattle.write_item.proofs.Judging.{judges-u8, judges-unsigned}
use Rattle.write_item.proofs.fits_unsigned.Goals as goal

pub returns-in-5 : goal.returns-in-5
unfolding is_word width_of pick
returns-in-5 c = judges-u8 _ c.in-5.is c.is_unsigned.ensures

pub returns-in_default : goal.returns-in_default
returns-in_default c = judges-unsigned _ (omega arith) (omega arith) c.is_sixth.ensures
