-- `write_item::put_part` meets its contract, by that of `put_counted`.
-- Assumes nothing.
use mathlib.Core.Path.{refl}
use Rattle.write_item.proofs.Judging.{part-is}
use Rattle.write_item.proofs.put_part.Goals as goal

pub returns : goal.returns
returns c = let a = c.args in
    rw (← (part-is a.pool.now a.first a.second _ refl)) c.put_counted.ensures
