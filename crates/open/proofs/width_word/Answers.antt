-- `open::width_word` meets its contract, by whether rounds are headed.
-- Assumes nothing.
use native.Mathlib.Omega.{arith}
use Rattle.open.specs.Items.{width_word}
use Rattle.open.proofs.width_word.Goals as goal

pub returns-then-headed : goal.returns-then-headed
unfolding width_word
returns-then-headed c = rw c.if-headed.true

pub returns : goal.returns
unfolding width_word
returns c = rw c.if-headed.false (omega arith)
