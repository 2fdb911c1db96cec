-- `batch::within` meets its contract.
-- Assumes nothing.
use native.Mathlib.Omega.{arith}
use Rattle.batch.proofs.Handing.{part-inside, part-beyond}
use Rattle.batch.proofs.within.Goals as goal

pub returns-then-size-from : goal.returns-then-size-from
returns-then-size-from c = part-beyond _ _ _ (omega arith)

pub returns-then-size-from-2 : goal.returns-then-size-from-2
returns-then-size-from-2 c = part-beyond _ _ _ (omega arith)

pub returns : goal.returns
returns c = part-inside _ _ _ (omega arith)
