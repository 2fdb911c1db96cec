-- `leaf::float` meets its contract: a float is the unsigned number of its bits.
-- Assumes nothing.
use mathlib.Core.Path.{◌≡◌, sym, ◌∙◌}
use native.Mathlib.Omega.{arith}
use Rattle.fixint.proofs.Numbers.{floats}
use Rattle.fixint.specs.Sizes.{order_of, sign_of}
use Rattle.leaf.proofs.Leaves.{numbered}
use Rattle.leaf.proofs.float.Goals as goal

pub returns-in-9 : goal.returns-in-9
unfolding numbered order_of sign_of
returns-in-9 c = let e : c.args.kind ≡ 9 = omega arith in rw e (c.take32.ensures ∙ sym (floats _).0)

pub returns-in_default : goal.returns-in_default
unfolding numbered order_of sign_of
returns-in_default c = let e : c.args.kind ≡ 10 = omega arith in rw e (c.take64.ensures ∙ sym (floats _).1)
