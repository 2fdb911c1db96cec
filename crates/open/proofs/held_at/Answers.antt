-- `open::held_at` meets its contract: its words are the list's.
-- Assumes nothing.
use mathlib.Core.Path.{refl}
use Rattle.open.specs.Items.{held_at}
use Rattle.open.proofs.held_at.Goals as goal

pub returns : goal.returns
unfolding held_at
returns c = refl
