-- `leaf::at_place` meets its contract.
-- Assumes nothing.
use mathlib.Core.Path.{refl}
use Prim.Native.Nat.{◌+◌}
use Rattle.laws.proofs.Items.{kept, changed}
use Rattle.leaf.specs.Leaves.{Within}
use Rattle.leaf.proofs.at_place.Goals as goal

pub returns-in_default : goal.returns-in_default
returns-in_default c = kept (λ a. c.args.place + a) refl c.in_default.is

pub overflow_add-result : goal.overflow_add-result
unfolding Within
overflow_add-result c = record { fits = rw c.in-Ok.is at c.requires }

pub returns : goal.returns
returns c = changed (λ a. c.args.place + a) refl c.in-Ok.is refl
