-- `put_content::step` meets its contract: a quote, or another byte.
-- Assumes nothing.
use native.Mathlib.Omega.{arith}
use Rattle.put_content.specs.Undone.{two, one}
use Rattle.put_content.proofs.step.Goals as goal

pub returns-then-b-eq-QUOTE : goal.returns-then-b-eq-QUOTE
returns-then-b-eq-QUOTE c = two (omega arith)

pub returns : goal.returns
returns c = one (λ e. omega arith)
