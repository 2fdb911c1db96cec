-- The answers of `write_item::fits_first`.
use mathlib.Core.Path.{refl, sym}
use Prim.Native.Nat.{◌^◌}
use native.Mathlib.Omega.{arith}
use borrow.Author.Tests.{lt-ltb}
use Rattle.wire.specs.Numbers.{is_word}
use Rattle.write_item.proofs.Judging.{judges-option, judges-struct, judges-enum, judges-count}
use Rattle.write_item.proofs.fits_first.Goals as goal

pub returns-in-15 : goal.returns-in-15
returns-in-15 c = judges-option _ c.in-15.is refl

pub returns-in-18 : goal.returns-in-18
returns-in-18 c = judges-struct _ c.in-18.is refl

pub returns-in-19 : goal.returns-in-19
returns-in-19 c = judges-enum _ c.in-19.is c.is_variant.ensures

pub returns-in_default : goal.returns-in_default
unfolding is_word
returns-in_default c = let a = c.args in judges-count a.number (omega arith) (omega arith) (sym (lt-ltb a.first (2 ^ 64) (omega arith)))
