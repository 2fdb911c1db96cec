-- `laying::put_quarter` meets its contract.
-- Assumes nothing.
use lib.ListN.{length-set}
use native.Mathlib.Omega.{arith}
use Rattle.laying.proofs.Laying.{puts2}
use Rattle.laying.proofs.put_quarter.Goals as goal

pub bounds-out-at-2 : goal.bounds-out-at-2
bounds-out-at-2 c = simp length-set (omega arith)

pub returns : goal.returns
returns c = puts2 _ _ _
