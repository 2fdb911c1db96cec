-- `telling::is_waiting` meets its contract.
-- Assumes nothing.
use Rattle.telling.proofs.Marks.{mark-waits}
use Rattle.telling.proofs.is_waiting.Goals as goal

pub returns : goal.returns
returns c = mark-waits c.args.mark
