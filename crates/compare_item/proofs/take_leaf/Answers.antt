-- `compare_item::take_leaf` meets its contract: an integer stands anywhere.
-- Assumes nothing.
use mathlib.Core.Path.{◌∙◌}
use Rattle.compare_item.proofs.Leaves.{ints-anywhere}
use native.Mathlib.Omega.{arith}
use Rattle.compare_item.proofs.take_leaf.Goals as goal

pub take_int-requires : goal.take_int-requires
take_int-requires c = (omega arith, omega arith)

pub returns-in-1-to-8 : goal.returns-in-1-to-8
returns-in-1-to-8 c = c.take_int.ensures ∙ ints-anywhere c.args.number (omega arith, omega arith) _ _ _ _

pub returns-in_default : goal.returns-in_default
returns-in_default c = c.take_other.ensures
