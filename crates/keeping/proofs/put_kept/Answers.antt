-- `keeping::put_kept` meets its contract.
-- Assumes nothing.
use Rattle.keeping.proofs.Keeping.{row_room, put-row}
use Rattle.keeping.proofs.put_kept.Goals as goal

pub put-requires : goal.put-requires
put-requires c = row_room c.args.out.now _ _ c.args.to c.args.bytes.now c.put_bytes.ensures.stored c.requires

pub returns : goal.returns
returns c = put-row c.args.out.now c.args.len c.args.to c.args.many c.args.bytes.now c.args.row c.put_bytes.ensures.stored c.put.ensures
