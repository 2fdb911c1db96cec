-- `telling::written` meets its contract, case by case.
-- Assumes nothing.
use Rattle.telling.proofs.Told.{write_done, write-refused}
use Rattle.telling.proofs.written.Goals as goal

pub returns-in-Ok : goal.returns-in-Ok
returns-in-Ok c = write_done c.in-Ok.is

pub returns-in-Err : goal.returns-in-Err
returns-in-Err c = write-refused c.in-Err.is c.refusal.ensures
