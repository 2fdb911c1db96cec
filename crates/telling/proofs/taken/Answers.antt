-- `telling::taken` meets its contract, case by case.
-- Assumes nothing.
use Rattle.telling.proofs.Told.{take_done, take-refused}
use Rattle.telling.proofs.taken.Goals as goal

pub returns-in-Ok : goal.returns-in-Ok
returns-in-Ok c = take_done c.in-Ok.is

pub returns-in-Err : goal.returns-in-Err
returns-in-Err c = take-refused c.in-Err.is c.refusal.ensures
