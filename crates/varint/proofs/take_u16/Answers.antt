-- `varint::take_u16` meets its contract: the constants are the width's.
-- Assumes nothing.
use mathlib.Core.Path.{◌∙◌}
use Rattle.wire.specs.Shape.{w16}
use Rattle.wire.specs.Numbers.{most, last}
use Rattle.varint.proofs.Reading.{at_width}
use Rattle.varint.proofs.take_u16.Goals as goal

pub returns : goal.returns
unfolding most last
returns c = c.take.ensures ∙ at_width w16 _
