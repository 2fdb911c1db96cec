-- `open::next_round` meets its contract, by whether there is room for the round's own entry.
-- Assumes nothing.
use Rattle.open.proofs.Turning.{rounds-full, rounds-begun}
use Rattle.open.proofs.next_round.Goals as goal

pub returns-in_default : goal.returns-in_default
returns-in_default c = rounds-full c.begin.ensures c.in_default.is

pub returns : goal.returns
returns c = rounds-begun c.begin.ensures c.in-Some.is c.hold.ensures
