-- `write_item::fits_signed` meets its contract, by the kind.
-- Assumes nothing.
use mathlib.Core.Path.{refl}
use native.Mathlib.Omega.{arith}
use Rattle.wire.specs.Numbers.{is_word}
use Rattle.wire.specs.Tests.{pick}
use Rattle.zigzag.specs.Widths.{width_of}
use Rattle.write_item.proofs.Judging.{judges-bool, judges-i8, judges-signed}
use Rattle.write_item.proofs.fits_signed.Goals as goal

pub returns-in-0 : goal.returns-in-0
returns-in-0 c = judges-bool _ c.in-0.is refl

pub returns-in-1 : goal.returns-in-1
unfolding is_word width_of pick
returns-in-1 c = judges-i8 _ c.in-1.is c.is_signed.ensures

pub returns-in_default : goal.returns-in_default
returns-in_default c = judges-signed _ (omega arith) (omega arith) c.is_sixth.ensures
