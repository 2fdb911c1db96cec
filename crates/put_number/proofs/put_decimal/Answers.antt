-- `put_number::put_decimal` meets its contract: a number that has no room is counted, and one that has is stored.
-- Assumes nothing.
use native.Mathlib.Omega.{arith}
use Rattle.put_number.proofs.Laying.{lays-beyond, lays-inside, exact}
use Rattle.put_number.proofs.put_decimal.Goals as goal

pub returns-then-out-end : goal.returns-then-out-end
returns-then-out-end c = lays-beyond (omega arith) c.digits-n.ensures c.add-end.ensures (omega arith)

pub fill_decimal-requires : goal.fill_decimal-requires
fill_decimal-requires c = (exact _ _ (omega arith) c.digits-n.ensures c.add-end.ensures c.if-out-end.false, omega arith)

pub returns : goal.returns
returns c = lays-inside c.digits-n.ensures c.add-end.ensures c.fill_decimal.ensures
