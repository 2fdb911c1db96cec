-- `recorded::field::first` meets its contract: it cuts at the end of the first field.
-- Assumes nothing.
use Rattle.recorded.proofs.Fields.{first-none, first-at}
use Rattle.recorded.proofs.field.first.Goals as goal

pub returns-then-end-lt2 : goal.returns-then-end-lt2
returns-then-end-lt2 c = first-none _ c.end_of-end.ensures c.if-end-lt2.true

pub returns : goal.returns
returns c = first-at _ c.end_of-end.ensures
