-- `telling::part` meets its contract, case by case.
-- Assumes nothing.
use Rattle.telling.proofs.Told.{part-found, part-refused}
use Rattle.telling.proofs.part.Goals as goal

pub returns-in-Ok : goal.returns-in-Ok
returns-in-Ok c = part-found c.in-Ok.is

pub returns-in-Err : goal.returns-in-Err
returns-in-Err c = part-refused c.in-Err.is c.fault.ensures
