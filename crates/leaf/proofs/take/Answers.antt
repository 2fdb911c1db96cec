-- `leaf::take` meets its contract, range by range.
-- Assumes nothing.
use mathlib.Core.Path.{◌≡◌, ◌∙◌}
use native.Mathlib.Omega.{arith}
use Rattle.leaf.proofs.Leaves.{numbered, low-leaf, beyond, is_leaf_lem, low-place}
use Rattle.leaf.proofs.take.Goals as goal

pub returns-then-place-part : goal.returns-then-place-part
returns-then-place-part c = beyond _ _ _ (omega arith)

pub returns-in-0 : goal.returns-in-0
unfolding numbered
returns-in-0 c = let e : c.args.kind ≡ 0 = omega arith in is_leaf_lem _ _ _ (omega arith) (low-leaf _ (omega arith)) (rw e c.take_flag.ensures)

pub returns-in-1-to-4 : goal.returns-in-1-to-4
returns-in-1-to-4 c = is_leaf_lem _ _ _ (omega arith) (low-leaf _ (omega arith)) (c.signed.ensures ∙ low-place _ _ _ (omega arith))

pub returns-in-5-to-8 : goal.returns-in-5-to-8
returns-in-5-to-8 c = is_leaf_lem _ _ _ (omega arith) (low-leaf _ (omega arith)) (c.unsigned.ensures ∙ low-place _ _ _ (omega arith))
