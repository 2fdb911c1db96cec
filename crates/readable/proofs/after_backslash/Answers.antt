-- `readable::after_backslash` meets its contract.
-- Assumes nothing.
use mathlib.Core.Path.{refl}
use Rattle.readable.specs.Spelling.{padded}
use Rattle.readable.proofs.after_backslash.Goals as goal

pub returns : goal.returns
unfolding padded
returns c = (refl, refl)
