-- `keeping::mark_last` meets its contract. The loop's invariant: what the rows in front of the last one mark is marked, and the others' marks are still to come.
-- Assumes nothing.
use mathlib.Core.Path.{refl, ◌∙◌}
use Prim.Native.Nat.{◌-◌}
use lib.ListN.{length}
use Rattle.row.specs.Ranks.{row_count}
use Rattle.keeping.proofs.Lasting.{no-rows, lasting-begin, lasting-next, lasting-end}
use native.Mathlib.Omega.{arith}
use Rattle.keeping.proofs.mark_last.Goals as goal

pub returns-then-count-eq0 : goal.returns-then-count-eq0
unfolding row_count
returns-then-count-eq0 c = no-rows _ (length c.args.area.now) c.if-count-eq0.true c.clear.ensures

pub load-last-requires : goal.load-last-requires
unfolding row_count
load-last-requires c = omega (arith, c.if-count-eq0.false)

pub loop-i-init : goal.loop-i-init
unfolding row_count
loop-i-init c = (lasting-begin (length c.args.area.now) c.if-count-eq0.false c.requires c.load-last.ensures c.clear.ensures, refl)

pub load-next-requires : goal.load-next-requires
unfolding row_count
load-next-requires c = omega arith

pub loop-i-preserved : goal.loop-i-preserved
unfolding row_count
loop-i-preserved c = (lasting-next c.loop-i.invariant.0 c.loop-i-test.true c.load-next.ensures c.same_key-goes_on.ensures c.mark_if.ensures, c.area-in-loop-i-1.given ∙ c.loop-i.invariant.1)

pub shape_of-area : goal.shape_of-area
shape_of-area c = c.area-2-1.given ∙ c.loop-i.invariant.1 ∙ c.area-1.given

pub returns : goal.returns
unfolding row_count
returns c = lasting-end c.loop-i.invariant.0 c.loop-i-test.false c.mark_if-2.ensures
