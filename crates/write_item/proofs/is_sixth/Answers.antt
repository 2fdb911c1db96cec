-- `write_item::is_sixth` meets its contract, by each of the six. Every word is below 2^64.
-- Assumes nothing.
use mathlib.Core.Path.{◌≡◌, sym}
use Prim.Native.Nat.{◌^◌}
use native.Mathlib.Omega.{arith}
use borrow.Author.Tests.{lt-ltb}
use Rattle.wire.specs.Tests.{pick}
use Rattle.wire.specs.Shape.{bits}
use Rattle.wire.specs.Numbers.{is_word}
use Rattle.zigzag.specs.Widths.{width_of}
use Rattle.write_item.specs.Own.{sign_at, width_at}
use Rattle.write_item.proofs.is_sixth.Goals as goal

pub returns-in-0 : goal.returns-in-0
unfolding is_word sign_at width_at bits width_of pick
returns-in-0 c = let e : c.args.k ≡ 0 = omega arith in rw e c.is_signed.ensures

pub returns-in-1 : goal.returns-in-1
unfolding is_word sign_at width_at bits width_of pick
returns-in-1 c = let e : c.args.k ≡ 1 = omega arith in rw e c.is_signed-in-1.ensures

pub returns-in-2 : goal.returns-in-2
unfolding is_word sign_at width_at bits width_of pick
returns-in-2 c = let e : c.args.k ≡ 2 = omega arith in rw e c.is_signed-in-2.ensures

pub returns-in-3 : goal.returns-in-3
unfolding is_word sign_at width_at bits width_of pick
returns-in-3 c = let e : c.args.k ≡ 3 = omega arith in rw e c.is_unsigned.ensures

pub returns-in-4 : goal.returns-in-4
unfolding is_word sign_at width_at bits width_of pick
returns-in-4 c = let e : c.args.k ≡ 4 = omega arith in rw e c.is_unsigned-in-4.ensures

pub returns-in_default : goal.returns-in_default
unfolding is_word sign_at width_at bits width_of pick
returns-in_default c = let e : c.args.k ≡ 5 = omega arith in rw e (sym (lt-ltb c.args.first (2 ^ 64) (omega arith)))
