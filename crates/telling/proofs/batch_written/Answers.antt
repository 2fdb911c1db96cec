-- `telling::batch_written` meets its contract, case by case.
-- Assumes nothing.
use Rattle.telling.proofs.Told.{batch-done, batch-refused}
use Rattle.telling.proofs.batch_written.Goals as goal

pub returns-in-Ok : goal.returns-in-Ok
returns-in-Ok c = batch-done c.in-Ok.is

pub returns-in-Err : goal.returns-in-Err
returns-in-Err c = batch-refused c.in-Err.is c.fault.ensures
