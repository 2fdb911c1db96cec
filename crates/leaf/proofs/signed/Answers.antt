-- `leaf::signed` meets its contract, kind by kind.
-- Assumes nothing.
use mathlib.Core.Path.{◌≡◌}
use native.Mathlib.Omega.{arith}
use Rattle.wire.specs.Shape.{w64}
use Rattle.wire.specs.Numbers.{most, last}
use Rattle.varint.proofs.Reading.{at_width}
use Rattle.fixint.specs.Sizes.{byte_of}
use Rattle.leaf.proofs.Leaves.{numbered}
use Rattle.leaf.proofs.signed.Goals as goal

pub returns-in-1 : goal.returns-in-1
unfolding numbered byte_of
returns-in-1 c = let e : c.args.kind ≡ 1 = omega arith in rw e c.take8.ensures

pub returns-in-2 : goal.returns-in-2
unfolding numbered
returns-in-2 c = let e : c.args.kind ≡ 2 = omega arith in rw (e, ← c.take_u16.ensures) c.unzigzag.ensures

pub returns-in-3 : goal.returns-in-3
unfolding numbered
returns-in-3 c = let e : c.args.kind ≡ 3 = omega arith in rw (e, ← c.take_u32.ensures) c.unzigzag-in-3.ensures

pub returns-in_default : goal.returns-in_default
unfolding numbered most last
returns-in_default c = let e : c.args.kind ≡ 4 = omega arith in rw (e, ← at_width w64 _, ← c.take.ensures) c.unzigzag-in_default.ensures
