-- `compare_item::both` meets its contract: a side is refused, or both are taken.
-- Assumes nothing.
use Rattle.compare_item.proofs.Leaves.{both-numbers, first-number, second-number}
use Rattle.compare_item.proofs.both.Goals as goal

pub returns-in_default : goal.returns-in_default
returns-in_default c = first-number _ _ c.in_default.is

pub returns-in_default-there : goal.returns-in_default-there
returns-in_default-there c = second-number _ _ c.in-Ok.is c.in_default-there.is

pub returns : goal.returns
returns c = both-numbers _ _ c.in-Ok.is c.in-Ok-there.is
