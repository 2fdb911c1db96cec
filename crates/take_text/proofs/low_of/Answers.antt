-- `take_text::low_of` meets its contract: one of two lead bytes, or another.
-- Assumes nothing.
use native.Mathlib.Omega.{arith}
use Rattle.take_text.proofs.Marking.{low-e0, low-f0, low_any}
use Rattle.take_text.proofs.low_of.Goals as goal

pub returns-in-224 : goal.returns-in-224
returns-in-224 c = low-e0 c.args.b (omega arith)

pub returns-in-240 : goal.returns-in-240
returns-in-240 c = low-f0 c.args.b (omega arith)

pub returns-in_default : goal.returns-in_default
returns-in_default c = low_any c.args.b (λ e. omega arith) (λ e. omega arith)
