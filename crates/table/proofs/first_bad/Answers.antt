-- `table::first_bad` meets its contract. The loop's invariant: the check of the nodes that are left is the check.
-- Assumes nothing.
use mathlib.Core.Path.{◌≡◌, sym, ◌∙◌}
use Prim.Native.Nat.{◌+◌, ◌-◌}
use native.Mathlib.Omega.{arith}
use Rattle.wire.specs.Table.{record_of, good_in}
use Rattle.table.proofs.Checks.{from-none, from-no, from_next, bad-node, no-bad}
use Rattle.table.proofs.first_bad.Goals as goal

pub loop-i-init : goal.loop-i-init
unfolding record_of
loop-i-init c = let l = c.args.l in let e : l.nodes - 0 ≡ l.nodes = omega arith in (rw e, omega arith, omega arith)

pub good_node-requires : goal.good_node-requires
good_node-requires c = record { inside = c.requires; i_lt_nodes = (omega arith, c.loop-i.invariant.2) }

pub returns-then-not-good_node : goal.returns-then-not-good_node
unfolding good_in
returns-then-not-good_node c = c.loop-i.invariant.0
    ∙ sym (from-no _ _ _ _ _ (omega arith) (sym c.if-not-good_node.true ∙ c.good_node.ensures))
    ∙ bad-node _ _ (omega arith)

pub overflow_add-at : goal.overflow_add-at
unfolding record_of
overflow_add-at c = omega arith

pub loop-i-preserved : goal.loop-i-preserved
unfolding record_of good_in
loop-i-preserved c = let n = c.args.l.nodes in
    let e : n - (c.loop-i.i + 1) ≡ n - c.loop-i.i - 1 = omega arith in
    (c.loop-i.invariant.0 ∙ rw e (from_next _ _ _ _ _ (omega arith) (sym c.if-not-good_node.false ∙ c.good_node.ensures)), omega arith, omega arith)

pub returns : goal.returns
returns c = c.loop-i.invariant.0 ∙ sym (from-none _ _ _ _ _ (omega arith)) ∙ no-bad _ _ (omega arith)
