-- `put_quoted::found_with` meets its contract: a quote is found, and by another byte nothing is changed.
-- Assumes nothing.
use native.Mathlib.Omega.{arith}
use Rattle.put_quoted.proofs.Quoting.{or-quote, or-other}
use Rattle.put_quoted.proofs.found_with.Goals as goal

pub returns-then-b-eq-QUOTE : goal.returns-then-b-eq-QUOTE
returns-then-b-eq-QUOTE c = or-quote c.args.b _ (omega arith)

pub returns : goal.returns
returns c = or-other c.args.b _ (λ e. omega arith)
