-- `leaf::fixed` meets its contract, one of the six by one.
-- Assumes nothing.
use mathlib.Core.Path.{◌≡◌}
use Prim.Native.Nat.{◌≤◌}
use native.Mathlib.Omega.{arith}
use Rattle.laws.specs.KindRanges.{sixth}
use Rattle.fixint.specs.Sizes.{sign_of}
use Rattle.leaf.proofs.Leaves.{sixth-last}
use Rattle.leaf.proofs.fixed.Goals as goal

pub returns-in-0 : goal.returns-in-0
unfolding sixth sign_of
returns-in-0 c = let e : c.args.k ≡ 0 = omega arith in rw e c.take16.ensures

pub returns-in-1 : goal.returns-in-1
unfolding sixth sign_of
returns-in-1 c = let e : c.args.k ≡ 1 = omega arith in rw e c.take32.ensures

pub returns-in-2 : goal.returns-in-2
unfolding sixth sign_of
returns-in-2 c = let e : c.args.k ≡ 2 = omega arith in rw e c.take64.ensures

pub returns-in-3 : goal.returns-in-3
unfolding sixth sign_of
returns-in-3 c = let e : c.args.k ≡ 3 = omega arith in rw e c.take16-in-3.ensures

pub returns-in-4 : goal.returns-in-4
unfolding sixth sign_of
returns-in-4 c = let e : c.args.k ≡ 4 = omega arith in rw e c.take32-in-4.ensures

pub returns-in_default : goal.returns-in_default
unfolding sign_of
returns-in_default c = let h : 5 ≤ c.args.k = omega arith in rw (sixth-last _ _ h) c.take64-in_default.ensures
