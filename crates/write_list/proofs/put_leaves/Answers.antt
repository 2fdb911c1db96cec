-- `write_list::put_leaves` meets its contract, which is the loop's invariant: a leaf that was put is the first step of the row that is left.
-- Assumes nothing.
use mathlib.Core.Path.{refl}
use native.Mathlib.Omega.{arith}
use borrow.Author.Rules.{rules}
use Rattle.table.proofs.Stretches.{falls-first, falls-next}
use Rattle.write_list.proofs.Going.{few_bytes, going-begin, first_done}
use Rattle.write_list.proofs.Nodes.{node-number}
use Rattle.write_list.proofs.Rounds.{stretch-first}
use Rattle.write_list.proofs.Fronts.{leaf-gives}
use Rattle.write_list.proofs.put_leaves.Goals as goal

pub loop-left-init : goal.loop-left-init
loop-left-init c = (record { falls = c.requires.falls; going = going-begin _ _ _ (omega arith) }, refl)

pub u16_at-c-requires : goal.u16_at-c-requires
u16_at-c-requires c = omega (arith, c.loop-left.invariant.0.falls.inside)

pub kind_at-number-requires : goal.kind_at-number-requires
kind_at-number-requires c = record { good_table = c.requires.good_table; i_lt_nodes = omega (arith, falls-first c.loop-left.invariant.0.falls c.loop-left-test.true) }

pub put_leaf-requires : goal.put_leaf-requires
put_leaf-requires c = let low = falls-first c.loop-left.invariant.0.falls c.loop-left-test.true in node-number c.requires.good_table (omega (arith, low)) c.args.pool.now c.args.words.now 0 c.kind_at-number.ensures

pub returns-in_default : goal.returns-in_default
returns-in_default c = rw (c.put_leaf.ensures.kept.same c.in_default.is) c.loop-left.invariant.0

pub overflow_add-field : goal.overflow_add-field
overflow_add-field c = omega (arith, c.loop-left.invariant.0.falls.inside)

pub loop-left-preserved : goal.loop-left-preserved
loop-left-preserved c = let inv = c.loop-left.invariant.0 in
    let more = c.loop-left-test.true in
    let low = falls-first inv.falls more in
    let q = c.in-Ok.is in
    (record { falls = falls-next inv.falls more; going = first_done (few_bytes _ c.well_formed.1.1.1.1.1.0.1) inv.going (stretch-first _ _ _ _ _ _ c.u16_at-c.ensures.0 more) (leaf-gives c.requires.good_table (omega (arith, low)) c.kind_at-number.ensures (c.put_leaf.ensures.put q)) q }, search rules)

pub returns : goal.returns
returns c = c.loop-left.invariant.0
