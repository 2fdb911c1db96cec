-- `leaf::unzigzag` meets its contract.
-- Assumes nothing.
use mathlib.Core.Path.{refl}
use Rattle.wire.specs.Numbers.{unzigzagged}
use Rattle.wire.specs.Shape.{signed}
use Rattle.laws.proofs.Items.{kept, changed}
use Rattle.leaf.proofs.unzigzag.Goals as goal

pub returns-in_default : goal.returns-in_default
returns-in_default c = kept (unzigzagged signed) refl c.in_default.is

pub returns : goal.returns
unfolding unzigzagged
returns c = changed (unzigzagged signed) refl c.in-Ok.is c.unzigzag.ensures
