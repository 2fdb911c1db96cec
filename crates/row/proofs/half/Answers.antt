-- `row::half` meets its contract.
-- Assumes nothing.
use Rattle.row.proofs.Bytes.{take4}
use Rattle.row.proofs.half.Goals as goal

pub returns : goal.returns
returns c = take4 _ _ _ _ _ _ c.requires c.byte-a.ensures.is c.byte-b.ensures.is c.byte-c.ensures.is c.byte-d.ensures.is
