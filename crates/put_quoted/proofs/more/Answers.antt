-- `put_quoted::more` meets its contract: a quote is doubled, and no other byte.
-- Assumes nothing.
use mathlib.Core.Path.{sym, ap}
use Prim.Native.Nat.{ℕ}
use native.Mathlib.Omega.{arith}
use lib.ListN.{length}
use Rattle.put_quoted.proofs.Quoting.{doubled-quote, doubled-other}
use Rattle.put_quoted.proofs.more.Goals as goal

pub returns-then-b-eq-QUOTE : goal.returns-then-b-eq-QUOTE
returns-then-b-eq-QUOTE c = (sym (ap (length {A = ℕ}) (doubled-quote c.args.b (omega arith))), omega arith)

pub returns : goal.returns
returns c = (sym (ap (length {A = ℕ}) (doubled-other c.args.b (λ e. omega arith))), omega arith)
