-- `put_quoted::fill_one` meets its contract: a quote is stored twice, another byte once.
-- Assumes nothing.
use mathlib.Core.Path.{ap}
use Prim.Native.Nat.{ℕ}
use native.Mathlib.Omega.{arith}
use lib.ListN.{length, length-set}
use Rattle.put_quoted.proofs.Quoting.{doubled-quote, doubled-some, one-stored, two-stored}
use Rattle.put_quoted.proofs.fill_one.Goals as goal

pub overflow_add-next : goal.overflow_add-next
overflow_add-next c = omega (arith, c.requires, doubled-some c.args.b)

pub bounds-out-to : goal.bounds-out-to
bounds-out-to c = omega (arith, c.requires, doubled-some c.args.b)

pub bounds-out-next : goal.bounds-out-next
bounds-out-next c = simp length-set (omega (arith, c.requires, ap (length {A = ℕ}) (doubled-quote c.args.b (omega arith))))

pub overflow_add-result : goal.overflow_add-result
overflow_add-result c = omega (arith, c.requires, ap (length {A = ℕ}) (doubled-quote c.args.b (omega arith)))

pub returns-then-b-eq-QUOTE : goal.returns-then-b-eq-QUOTE
returns-then-b-eq-QUOTE c = two-stored _ _ _ (omega arith)

pub returns : goal.returns
returns c = one-stored _ _ _ (λ e. omega arith)
