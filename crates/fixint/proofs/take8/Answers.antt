-- `fixint::take8` meets its contract.
-- Assumes nothing.
use mathlib.Core.Path.{◌∙◌}
use Rattle.fixint.specs.Sizes.{order_of}
use Rattle.fixint.proofs.Numbers.{byte-size, is_byte}
use Rattle.fixint.proofs.take8.Goals as goal

pub take-requires : goal.take-requires
take-requires c = byte-size

pub returns : goal.returns
unfolding order_of
returns c = c.take.ensures ∙ is_byte _ _
