-- `starts::all_stand` meets its contract. The loop's invariant: the rows so far stand at their messages, where they lead into the window.
-- Assumes nothing.
use Prim.Native.Nat.{◌-◌}
use Rattle.row.specs.Ranks.{row_count}
use Rattle.starts.proofs.Judged.{placing-begin, placing-wrong, placing-next, placing-end}
use native.Mathlib.Omega.{arith}
use Rattle.starts.proofs.all_stand.Goals as goal

pub loop-i-init : goal.loop-i-init
loop-i-init c = placing-begin

pub load-row-requires : goal.load-row-requires
unfolding row_count
load-row-requires c = omega arith

pub stands-requires : goal.stands-requires
stands-requires c = c.requires

pub returns-then-not-stands : goal.returns-then-not-stands
unfolding row_count
returns-then-not-stands c = placing-wrong c.loop-i.invariant c.loop-i-test.true c.load-row.ensures c.stands.ensures c.if-not-stands.true

pub loop-i-preserved : goal.loop-i-preserved
unfolding row_count
loop-i-preserved c = placing-next c.loop-i.invariant c.loop-i-test.true c.load-row.ensures c.stands.ensures c.if-not-stands.false

pub returns : goal.returns
unfolding row_count
returns c = placing-end c.loop-i.invariant c.loop-i-test.false
