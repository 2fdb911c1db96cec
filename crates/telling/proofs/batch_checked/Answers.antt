-- `telling::batch_checked` meets its contract, case by case.
-- Assumes nothing.
use Rattle.telling.proofs.Told.{batch-good, batch-bad}
use Rattle.telling.proofs.batch_checked.Goals as goal

pub returns-in-Ok : goal.returns-in-Ok
returns-in-Ok c = batch-good c.in-Ok.is

pub returns-in-Err : goal.returns-in-Err
returns-in-Err c = batch-bad c.in-Err.is c.fault.ensures
