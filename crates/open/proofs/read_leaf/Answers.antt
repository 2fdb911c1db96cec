-- `open::read_leaf` meets its contract: an integer read plainly is taken here, and any other leaf by `read_item`.
-- Assumes nothing.
use Rattle.read_item.proofs.Heads.{int-taken, int-ends}
use Rattle.open.proofs.Leading.{puts_plain}
use Rattle.open.proofs.read_leaf.Goals as goal

pub lay-requires : goal.lay-requires
lay-requires c = let p = c.requires in record { ends = int-ends _ c.int_bytes.ensures c.in-Some.is p.part_bound; made_bound = p.made_bound }

pub returns-in-Some : goal.returns-in-Some
returns-in-Some c = puts_plain _ c.if-not-strict.true (int-taken _ c.int_bytes.ensures c.in-Some.is c.requires.part_bound).1 c.lay.ensures
