-- `laying::lay` meets its contract.
-- Assumes nothing.
use Rattle.laying.proofs.Laying.{whole_of, lay-ends}
use Rattle.laying.proofs.lay.Goals as goal

pub put_rows-requires : goal.put_rows-requires
put_rows-requires c = record { keyed_by = c.requires.keyed_by; whole = whole_of c.requires.laid c.put_bytes.ensures.stored }

pub returns : goal.returns
returns c = lay-ends c.requires.laid _ _ c.put_bytes.ensures.stored c.put_rows.ensures c.sort.ensures c.put_trailer.ensures
