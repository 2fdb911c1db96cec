-- `compare::refusal` meets its contract: the first message's refusal, the second's, or none.
-- Assumes nothing.
use Rattle.compare.proofs.Promised.{first-refused, second-refused, none-refused}
use Rattle.compare.proofs.refusal.Goals as goal

pub returns-in-Err : goal.returns-in-Err
returns-in-Err c = first-refused _ _ _ c.skim-first.ensures c.in-Err.is

pub returns-in-Err-second : goal.returns-in-Err-second
returns-in-Err-second c = second-refused _ _ _ c.skim-first.ensures c.skim-second.ensures c.in_default.is c.in-Err-second.is

pub returns : goal.returns
returns c = none-refused _ _ _ c.skim-first.ensures c.skim-second.ensures c.in_default.is c.in_default-second.is
