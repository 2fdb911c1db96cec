-- `output::put_inside` meets its contract: the loop's invariant is that of `varint::put`.
-- Assumes nothing.
use mathlib.Core.Path.{◌∙◌}
use Prim.Native.Nat.{ℕ}
use native.Mathlib.Omega.{arith}
use lib.ListN.{length-set}
use Rattle.output.proofs.Varints.{inside-begin, inside-more, inside-stop}
use Rattle.output.proofs.put_inside.Goals as goal

pub loop-rest-init : goal.loop-rest-init
loop-rest-init c = inside-begin _ _ _ c.ranges.x.fits

pub bounds-out-at : goal.bounds-out-at
bounds-out-at c = omega (arith, c.loop-rest.invariant.few, c.loop-rest.invariant.long)

pub overflow_add-at : goal.overflow_add-at
overflow_add-at c = omega (arith, c.loop-rest.invariant.few, c.loop-rest.invariant.long)

pub loop-rest-preserved : goal.loop-rest-preserved
loop-rest-preserved c = inside-more c.loop-rest.invariant c.loop-rest-test.true

pub bounds-out-at-2 : goal.bounds-out-at-2
bounds-out-at-2 c = omega (arith, c.loop-rest.invariant.few, c.loop-rest.invariant.long)

pub overflow_add-result : goal.overflow_add-result
overflow_add-result c = omega (arith, c.loop-rest.invariant.few, c.loop-rest.invariant.long)

pub shape_of-out : goal.shape_of-out
shape_of-out c = length-set {A = ℕ} c.loop-rest.out c.loop-rest.at c.loop-rest.rest ∙ c.loop-rest.invariant.long

pub returns : goal.returns
returns c = inside-stop c.loop-rest.invariant c.loop-rest-test.false c.requires (omega arith)
