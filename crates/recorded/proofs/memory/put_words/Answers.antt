-- `recorded::memory::put_words` meets its contract: the words that are left, put where the loop stands, give the whole.
-- Assumes nothing.
use mathlib.Core.Path.{refl, sym}
use Prim.Native.Nat.{◌-◌}
use native.Mathlib.Omega.{arith}
use lib.ListN.{length-set}
use lib.Seq.{length-take-le}
use Rattle.recorded.proofs.Fields.{tail}
use Rattle.recorded.proofs.Puts.{lays_more, lays-full, lays_all}
use Rattle.recorded.proofs.memory.put_words.Goals as goal

pub loop-i-init : goal.loop-i-init
loop-i-init c = (record { same = refl }, refl)

pub shape_of-store-then-rest-lt8 : goal.shape_of-store-then-rest-lt8
shape_of-store-then-rest-lt8 c = c.loop-i.invariant.1

pub returns-then-rest-lt8 : goal.returns-then-rest-lt8
returns-then-rest-lt8 c = lays_all c.loop-i.invariant.0 c.if-rest-lt8.true

pub slice_bounds-number-end : goal.slice_bounds-number-end
slice_bounds-number-end c = sym (length-take-le 8 c.loop-i.rest.now (omega arith))

pub loop-i-smaller : goal.loop-i-smaller
loop-i-smaller c = simp length-set (omega arith)

pub loop-i-preserved : goal.loop-i-preserved
loop-i-preserved c = (rw (tail c.loop-i.rest.now 8) (lays_more c.loop-i.invariant.0 (omega arith) c.number.ensures), simp length-set c.loop-i.invariant.1)

pub shape_of-store : goal.shape_of-store
shape_of-store c = c.loop-i.invariant.1

pub returns : goal.returns
returns c = lays-full c.loop-i.invariant.0 c.loop-i-test.false
