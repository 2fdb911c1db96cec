-- `open::rest` meets its contract: the tail behind what was read, and nothing after a refusal.
-- Assumes nothing.
use Rattle.open.proofs.Promised.{rest-done, rest-none}
use Rattle.open.proofs.rest.Goals as goal

pub returns-in-Ok : goal.returns-in-Ok
returns-in-Ok c = rest-done _ _ c.in-Ok.is c.from.ensures

pub returns-in-Err : goal.returns-in-Err
returns-in-Err c = rest-none _ _ c.in-Err.is
