-- `row::word` meets its contract.
-- Assumes nothing.
use Rattle.row.proofs.Bytes.{take8}
use Rattle.row.proofs.word.Goals as goal

pub returns : goal.returns
returns c = take8 _ _ _ _ _ _ _ _ _ _ c.requires c.byte-a.ensures.is c.byte-b.ensures.is c.byte-c.ensures.is c.byte-d.ensures.is c.byte-e.ensures.is c.byte-f.ensures.is c.byte-g.ensures.is c.byte-h.ensures.is
