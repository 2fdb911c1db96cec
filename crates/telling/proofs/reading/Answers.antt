-- `telling::reading` meets its contract, case by case.
-- Assumes nothing.
use Rattle.telling.proofs.Told.{count-done, count-refused}
use Rattle.telling.proofs.reading.Goals as goal

pub returns-in-Ok : goal.returns-in-Ok
returns-in-Ok c = count-done c.in-Ok.is

pub returns-in-Err : goal.returns-in-Err
returns-in-Err c = count-refused c.in-Err.is c.refusal.ensures
