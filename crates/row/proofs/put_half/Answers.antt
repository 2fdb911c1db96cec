-- `row::put_half` meets its contract.
-- Assumes nothing.
use lib.ListN.{length-set}
use Rattle.row.proofs.Bytes.{puts4}
use native.Mathlib.Omega.{arith}
use Rattle.row.proofs.put_half.Goals as goal

pub bounds-rows-at-2 : goal.bounds-rows-at-2
bounds-rows-at-2 c = simp length-set (omega arith)

pub bounds-rows-at-3 : goal.bounds-rows-at-3
bounds-rows-at-3 c = simp length-set (omega arith)

pub bounds-rows-at-4 : goal.bounds-rows-at-4
bounds-rows-at-4 c = simp length-set (omega arith)

pub returns : goal.returns
returns c = puts4 _ _ _
