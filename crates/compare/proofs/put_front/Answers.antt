-- `compare::put_front` meets its contract. The loop's invariant: the words in front are put, and the others are as before.
-- Assumes nothing.
use Prim.Native.Nat.{◌-◌}
use native.Mathlib.Omega.{arith}
use Rattle.compare.proofs.Words.{front-none, front-more, front-all}
use Rattle.compare.proofs.put_front.Goals as goal

pub loop-i-init : goal.loop-i-init
loop-i-init c = front-none c.requires.0 c.requires.1

pub offset_bounds-words-i : goal.offset_bounds-words-i
offset_bounds-words-i c = omega (arith, c.loop-i.invariant.there)

pub bounds-words-i : goal.bounds-words-i
bounds-words-i c = omega (arith, c.loop-i.invariant.there)

pub offset_bounds-list-i : goal.offset_bounds-list-i
offset_bounds-list-i c = omega (arith, c.loop-i.invariant.here)

pub bounds-list-i : goal.bounds-list-i
bounds-list-i c = omega (arith, c.loop-i.invariant.here, c.loop-i.invariant.long)

pub loop-i-preserved : goal.loop-i-preserved
loop-i-preserved c = front-more c.loop-i.invariant c.loop-i-test.true

pub shape_of-list : goal.shape_of-list
shape_of-list c = c.loop-i.invariant.long

pub returns : goal.returns
returns c = front-all c.loop-i.invariant c.loop-i-test.false
