-- `recorded::field::number_at` meets its contract, by those of the two calls.
-- Assumes nothing.
use mathlib.Core.Path.{◌∙◌, ap}
use Rattle.recorded.specs.Fields.{number_of}
use Rattle.recorded.proofs.field.number_at.Goals as goal

pub returns : goal.returns
returns c = c.number.ensures ∙ ap number_of c.part.ensures
