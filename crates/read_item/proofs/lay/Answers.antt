-- `read_item::lay` meets its contract: an item that was taken is put, and one that is refused leaves the store alone.
-- Assumes nothing.
use native.Mathlib.Omega.{arith}
use Rattle.read_item.proofs.Heads.{ends-within, puts-entry, puts-same}
use Rattle.read_item.proofs.lay.Goals as goal

pub overflow_add-behind : goal.overflow_add-behind
overflow_add-behind c = omega (arith, ends-within c.in-Ok.is c.requires.ends)

pub returns-in-Err : goal.returns-in-Err
returns-in-Err c = puts-same c.in-Err.is

pub returns-in-Ok : goal.returns-in-Ok
returns-in-Ok c = puts-entry c.in-Ok.is c.put.ensures
