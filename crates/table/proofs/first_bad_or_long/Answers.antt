-- `table::first_bad_or_long` meets its contract. The loop's invariant: the check of the nodes that are left is the check, and the chains of those in front are kept.
-- Assumes nothing.
use mathlib.Core.Path.{◌≡◌, refl, sym, ◌∙◌}
use Prim.Native.Nat.{◌+◌, ◌-◌}
use native.Mathlib.Omega.{arith}
use lib.ListN.{length-set}
use Rattle.wire.specs.Table.{second, record_of}
use Rattle.laws.proofs.Chains.{kept-none, kept-chain, kept_next}
use Rattle.table.proofs.Checks.{from-none, from-no, from_next, second-bad, second-long, second-good, bad-node, no-bad}
use Rattle.table.proofs.first_bad_or_long.Goals as goal

pub loop-i-init : goal.loop-i-init
unfolding record_of
loop-i-init c = let l = c.args.l in let e : l.nodes - 0 ≡ l.nodes = omega arith in (rw e, omega arith, omega arith, kept-none _ _ _, refl)

pub good_node-requires : goal.good_node-requires
good_node-requires c = record { inside = c.requires.inside; i_lt_nodes = (omega arith, c.loop-i.invariant.2) }

pub shape_of-chains-then-not-good_node : goal.shape_of-chains-then-not-good_node
shape_of-chains-then-not-good_node c = omega (arith, c.loop-i.invariant.4)

pub returns-then-not-good_node : goal.returns-then-not-good_node
returns-then-not-good_node c = c.loop-i.invariant.0
    ∙ sym (from-no second _ _ _ _ (omega arith) (second-bad _ _ _ (sym c.if-not-good_node.true ∙ c.good_node.ensures)))
    ∙ bad-node _ _ (omega arith)

pub chain_at-chain-requires : goal.chain_at-chain-requires
chain_at-chain-requires c = let good = sym c.good_node.ensures ∙ c.if-not-good_node.false in record { inside = c.requires.inside; i_lt_nodes = (omega arith, c.loop-i.invariant.2); i_value = good; i_in_bounds = omega (arith, c.loop-i.invariant.4) }

pub shape_of-chains-then-chain-gt-LONGEST : goal.shape_of-chains-then-chain-gt-LONGEST
shape_of-chains-then-chain-gt-LONGEST c = omega (arith, c.loop-i.invariant.4)

pub returns-then-chain-gt-LONGEST : goal.returns-then-chain-gt-LONGEST
returns-then-chain-gt-LONGEST c = let good = sym c.good_node.ensures ∙ c.if-not-good_node.false in
    let chain = c.chain_at-chain.ensures ∙ kept-chain c.loop-i.invariant.3 good in
    c.loop-i.invariant.0 ∙ sym (from-no second _ _ _ _ (omega arith) (second-long _ _ _ (sym good) (rw (← chain) c.if-chain-gt-LONGEST.true))) ∙ bad-node _ _ (omega arith)

pub offset_bounds-chains-i : goal.offset_bounds-chains-i
offset_bounds-chains-i c = omega (arith, c.loop-i.invariant.4)

pub bounds-chains-i : goal.bounds-chains-i
bounds-chains-i c = omega (arith, c.loop-i.invariant.4)

pub overflow_add-at : goal.overflow_add-at
unfolding record_of
overflow_add-at c = omega arith

pub loop-i-preserved : goal.loop-i-preserved
unfolding record_of
loop-i-preserved c = let good = sym c.good_node.ensures ∙ c.if-not-good_node.false in
    let chain = c.chain_at-chain.ensures ∙ kept-chain c.loop-i.invariant.3 good in
    let n = c.args.l.nodes in
    let e : n - (c.loop-i.i + 1) ≡ n - c.loop-i.i - 1 = omega arith in (
      c.loop-i.invariant.0 ∙ rw e (from_next second _ _ _ _ (omega arith) (second-good _ _ _ (sym good) (rw (← chain) c.if-chain-gt-LONGEST.false))),
      omega arith,
      omega arith,
      kept_next c.loop-i.invariant.3 good (omega (arith, c.loop-i.invariant.4)) _ chain,
      rw (length-set _ _ _) c.loop-i.invariant.4,
    )

pub shape_of-chains : goal.shape_of-chains
shape_of-chains c = omega (arith, c.loop-i.invariant.4)

pub returns : goal.returns
returns c = c.loop-i.invariant.0 ∙ sym (from-none second _ _ _ _ (omega arith)) ∙ no-bad _ _ (omega arith)
