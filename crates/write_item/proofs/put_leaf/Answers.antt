-- `write_item::put_leaf` meets its contract, by its two parts.
-- Assumes nothing.
use Rattle.write_item.proofs.put_leaf.Goals as goal

pub returns : goal.returns
returns c = c.put_int.ensures.with _ _
