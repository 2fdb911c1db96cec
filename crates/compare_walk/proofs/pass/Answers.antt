-- `compare_walk::pass` meets its contract: a side is refused, or both went.
-- Assumes nothing.
use mathlib.Core.Path.{refl}
use Rattle.compare_walk.proofs.Items.{both-passed, first-stopped, second-stopped}
use Rattle.compare_walk.proofs.pass.Goals as goal

pub returns-in_default : goal.returns-in_default
returns-in_default c = first-stopped _ _ _ _ _ c.skim_rounds-got.ensures refl c.in_default.is

pub returns-in_default-beside : goal.returns-in_default-beside
returns-in_default-beside c = second-stopped _ _ _ _ _ c.skim_rounds-got.ensures c.skim_rounds-beside.ensures c.in_default-beside.is

pub returns : goal.returns
returns c = both-passed _ _ _ _ _ c.skim_rounds-got.ensures c.skim_rounds-beside.ensures c.in-Ok.is c.in-Ok-beside.is
