-- `telling::checked` meets its contract, case by case.
-- Assumes nothing.
use Rattle.telling.proofs.Told.{check-good, check-bad}
use Rattle.telling.proofs.checked.Goals as goal

pub returns-in-Ok : goal.returns-in-Ok
returns-in-Ok c = check-good c.in-Ok.is

pub returns-in-Err : goal.returns-in-Err
returns-in-Err c = check-bad c.in-Err.is c.refusal.ensures
