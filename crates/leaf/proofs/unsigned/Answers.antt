-- `leaf::unsigned` meets its contract, kind by kind.
-- Assumes nothing.
use mathlib.Core.Path.{◌≡◌, sym, ◌∙◌}
use native.Mathlib.Omega.{arith}
use Rattle.wire.specs.Shape.{w64}
use Rattle.wire.specs.Numbers.{most, last}
use Rattle.varint.proofs.Reading.{at_width}
use Rattle.laws.proofs.Items.{on-unsigned}
use Rattle.fixint.specs.Sizes.{byte_of}
use Rattle.leaf.proofs.Leaves.{numbered}
use Rattle.leaf.proofs.unsigned.Goals as goal

pub returns-in-5 : goal.returns-in-5
unfolding numbered byte_of
returns-in-5 c = let e : c.args.kind ≡ 5 = omega arith in rw e c.take8.ensures

pub returns-in-6 : goal.returns-in-6
unfolding numbered
returns-in-6 c = let e : c.args.kind ≡ 6 = omega arith in rw e (c.take_u16.ensures ∙ sym (on-unsigned _))

pub returns-in-7 : goal.returns-in-7
unfolding numbered
returns-in-7 c = let e : c.args.kind ≡ 7 = omega arith in rw e (c.take_u32.ensures ∙ sym (on-unsigned _))

pub returns-in_default : goal.returns-in_default
unfolding numbered most last
returns-in_default c = let e : c.args.kind ≡ 8 = omega arith in rw e (c.take.ensures ∙ at_width w64 _ ∙ sym (on-unsigned _))
