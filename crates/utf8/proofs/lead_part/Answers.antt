-- `utf8::lead_part` meets its contract.
-- Assumes nothing.
use native.Mathlib.Omega.{arith}
use Rattle.utf8.proofs.Points.{lead-1, lead-2, lead-3, lead-4, lead-inner, lead-over}
use Rattle.utf8.proofs.lead_part.Goals as goal

pub returns-in-0-to-127 : goal.returns-in-0-to-127
returns-in-0-to-127 c = lead-1 _ (omega arith)

pub returns-in-194-to-223 : goal.returns-in-194-to-223
returns-in-194-to-223 c = lead-2 _ (omega arith) (omega arith)

pub returns-in-224-to-239 : goal.returns-in-224-to-239
returns-in-224-to-239 c = lead-3 _ (omega arith) (omega arith)

pub returns-in-240-to-244 : goal.returns-in-240-to-244
returns-in-240-to-244 c = lead-4 _ (omega arith) (omega arith)

pub returns-in_default : goal.returns-in_default
returns-in_default c = lead-inner _ (omega arith) (omega arith)

pub returns-in_default-2 : goal.returns-in_default-2
returns-in_default-2 c = lead-over _ (omega arith)
