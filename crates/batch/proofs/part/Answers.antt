-- `batch::part` meets its contract.
-- Assumes nothing.
use Rattle.batch.proofs.Handing.{part-found, part-refused}
use Rattle.batch.proofs.part.Goals as goal

pub returns-in-Ok : goal.returns-in-Ok
returns-in-Ok c = part-found _ c.in-Ok.is c.within.ensures

pub returns-in-Err : goal.returns-in-Err
returns-in-Err c = part-refused _ c.in-Err.is
