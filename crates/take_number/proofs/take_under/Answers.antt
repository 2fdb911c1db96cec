-- `take_number::take_under` meets its contract: no digit from 1 on, or the number that the digits are.
-- Assumes nothing.
use Rattle.std.proofs.lemmas.Result.{err_from_is_err_and}
use native.Mathlib.Omega.{arith}
use Rattle.take_number.proofs.Figures.{under-stops, under-taken}
use Rattle.take_number.proofs.take_under.Goals as goal

pub returns-in_err-d : goal.returns-in_err-d
returns-in_err-d c = let p = err_from_is_err_and c.from_residual.result c.from_residual.ensures.1 in rw (p.1, p.2) (under-stops _ _ _ c.requires c.in_err-d.ensures)

pub returns : goal.returns
returns c = under-taken _ _ _ c.in_ok-d.ensures c.take_digits-size.ensures.0 _ (omega (arith, c.take_digits-size.ensures.1, c.take_digits-size.ensures.2))
