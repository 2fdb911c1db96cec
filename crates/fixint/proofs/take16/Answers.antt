-- `fixint::take16` meets its contract: its size is the width's.
-- Assumes nothing.
use mathlib.Core.Path.{◌∙◌}
use Rattle.wire.specs.Shape.{w16, size}
use Rattle.fixint.proofs.Numbers.{width-size, is-fixed}
use Rattle.fixint.proofs.take16.Goals as goal

pub take-requires : goal.take-requires
unfolding size
take-requires c = width-size w16

pub returns : goal.returns
unfolding size
returns c = c.take.ensures ∙ is-fixed _ _ w16 _
