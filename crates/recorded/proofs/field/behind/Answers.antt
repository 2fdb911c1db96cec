-- `recorded::field::behind` meets its contract: it cuts at the end of the first field.
-- Assumes nothing.
use Rattle.recorded.proofs.Fields.{behind-at}
use Rattle.recorded.proofs.field.behind.Goals as goal

pub returns : goal.returns
returns c = behind-at _ c.end_of-end.ensures
