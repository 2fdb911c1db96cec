-- `leaf::others` meets its contract, range by range.
-- Assumes nothing.
use mathlib.Core.Path.{◌∙◌}
use native.Mathlib.Omega.{arith}
use Rattle.wire.specs.Reading.{head}
use Rattle.laws.proofs.KindRanges.{little-kind, big-kind}
use Rattle.fixint.specs.Sizes.{order_of}
use Rattle.leaf.proofs.Leaves.{low-leaf, high-leaf, inner-leaf, no-leaf, not-leaf, is_leaf_lem, low-place}
use Rattle.leaf.proofs.others.Goals as goal

pub returns-in-9-to-10 : goal.returns-in-9-to-10
returns-in-9-to-10 c = is_leaf_lem _ _ _ (omega arith) (low-leaf _ (omega arith)) (c.float.ensures ∙ low-place _ _ _ (omega arith))

pub returns-in-11-to-14 : goal.returns-in-11-to-14
returns-in-11-to-14 c = is_leaf_lem _ _ _ (omega arith) (low-leaf _ (omega arith)) c.text.ensures

pub returns-in-20-to-25 : goal.returns-in-20-to-25
unfolding head order_of
returns-in-20-to-25 c = is_leaf_lem _ _ _ (omega arith) (high-leaf _ (omega arith) (omega arith)) (rw (little-kind c.args.kind (omega arith) (omega arith)) c.fixed.ensures)

pub returns-in-26-to-31 : goal.returns-in-26-to-31
unfolding head order_of
returns-in-26-to-31 c = is_leaf_lem _ _ _ (omega arith) (high-leaf _ (omega arith) (omega arith)) (rw (big-kind c.args.kind (omega arith) (omega arith)) c.fixed-in-26-to-31.ensures)

pub returns-in_default : goal.returns-in_default
returns-in_default c = absurd (omega arith)

pub returns-in_default-2 : goal.returns-in_default-2
returns-in_default-2 c = not-leaf _ _ _ (omega arith) (inner-leaf _ (omega arith) (omega arith))

pub returns-in_default-3 : goal.returns-in_default-3
returns-in_default-3 c = not-leaf _ _ _ (omega arith) (no-leaf _ (omega arith))
