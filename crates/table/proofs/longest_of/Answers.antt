-- `table::longest_of` meets its contract. The loop's invariant: the longest so far and the chains that are left have the whole's longest.
-- Assumes nothing.
use native.Mathlib.Omega.{arith}
use Rattle.table.specs.Parts.{chain_at}
use Rattle.table.proofs.Longest.{longest-none, longest-turn}
use Rattle.table.proofs.Stretches.{falls-first, falls-next}
use Rattle.table.proofs.longest_of.Goals as goal

pub loop-left-init : goal.loop-left-init
loop-left-init c = (omega arith, c.requires.falls)

pub u16_at-child-requires : goal.u16_at-child-requires
u16_at-child-requires c = omega (arith, c.loop-left.invariant.1.inside)

pub offset_bounds-chains-child : goal.offset_bounds-chains-child
offset_bounds-chains-child c = let f = falls-first c.loop-left.invariant.1 c.loop-left-test.true in omega arith

pub bounds-chains-child : goal.bounds-chains-child
bounds-chains-child c = let f = falls-first c.loop-left.invariant.1 c.loop-left-test.true in omega arith

pub overflow_add-at : goal.overflow_add-at
overflow_add-at c = omega (arith, c.loop-left.invariant.1.inside)

pub loop-left-preserved : goal.loop-left-preserved
loop-left-preserved c = (rw c.larger-longest.ensures (longest-turn _ _ _ _ _ _ _ c.loop-left.invariant.0 c.loop-left-test.true c.u16_at-child.ensures.0), falls-next c.loop-left.invariant.1 c.loop-left-test.true)

pub returns : goal.returns
returns c = omega (arith, c.loop-left.invariant.0, longest-none (chain_at c.args.chains.now) c.args.table.now c.loop-left.at c.loop-left.left (omega arith))
