-- `take_text::high_of` meets its contract: one of two lead bytes, or another.
-- Assumes nothing.
use native.Mathlib.Omega.{arith}
use Rattle.take_text.proofs.Marking.{high-ed, high-f4, high-any}
use Rattle.take_text.proofs.high_of.Goals as goal

pub returns-in-237 : goal.returns-in-237
returns-in-237 c = high-ed c.args.b (omega arith)

pub returns-in-244 : goal.returns-in-244
returns-in-244 c = high-f4 c.args.b (omega arith)

pub returns-in_default : goal.returns-in_default
returns-in_default c = high-any c.args.b (λ e. omega arith) (λ e. omega arith)
