-- `write_item::is_unsigned` meets its contract, by the width. Every word is below 2^64.
-- Assumes nothing.
use mathlib.Core.Path.{◌≡◌, sym}
use Prim.Native.Nat.{◌^◌}
use native.Mathlib.Omega.{arith}
use borrow.Author.Tests.{lt-ltb, ne_eqb}
use Rattle.wire.specs.Tests.{pick}
use Rattle.wire.specs.Numbers.{is_word}
use Rattle.zigzag.specs.Widths.{width_of}
use Rattle.write_item.proofs.is_unsigned.Goals as goal

pub returns-in-8 : goal.returns-in-8
unfolding is_word width_of pick
returns-in-8 c = let e : c.args.bits ≡ 8 = omega arith in rw e

pub returns-in-16 : goal.returns-in-16
unfolding is_word width_of pick
returns-in-16 c = let e : c.args.bits ≡ 16 = omega arith in rw e

pub returns-in-32 : goal.returns-in-32
unfolding is_word width_of pick
returns-in-32 c = let e : c.args.bits ≡ 32 = omega arith in rw e

pub returns-in_default : goal.returns-in_default
unfolding is_word width_of pick
returns-in_default c = let a = c.args in
    rw (ne_eqb a.bits 8 (λ e. omega arith), ne_eqb a.bits 16 (λ e. omega arith), ne_eqb a.bits 32 (λ e. omega arith))
    (sym (lt-ltb a.first (2 ^ 64) (omega arith)))
