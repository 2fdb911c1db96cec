-- `take_number::digit` meets its contract: the row's end, a digit, or another byte.
-- Assumes nothing.
use native.Mathlib.Omega.{arith}
use Rattle.take_number.proofs.Figures.{digit-in, digit-out}
use Rattle.take_number.proofs.digit.Goals as goal

pub returns-in_err-b : goal.returns-in_err-b
returns-in_err-b c = rw c.from_residual.ensures (digit-out _ _ (λ l m n. omega (arith, c.in_err-b.ensures.lookup.3)))

pub returns-in-48-to-57 : goal.returns-in-48-to-57
returns-in-48-to-57 c = let h = c.in_ok-b.ensures.lookup.3 in let e = h.1 0 in rw e (digit-in _ _ h.0 (omega (arith, e)) (omega (arith, e)))

pub returns-in_default : goal.returns-in_default
returns-in_default c = digit-out _ _ (λ l m n. omega (arith, c.in_ok-b.ensures.lookup.3.1 0))

pub returns-in_default-2 : goal.returns-in_default-2
returns-in_default-2 c = digit-out _ _ (λ l m n. omega (arith, c.in_ok-b.ensures.lookup.3.1 0))
