-- `take_number::take_number` meets its contract: a minus or none, and what stands behind it.
-- Assumes nothing.
use Rattle.std.proofs.lemmas.Result.{err_from_is_err_and}
use mathlib.Core.Path.{sym, ◌∙◌}
use native.Mathlib.Omega.{arith}
use Rattle.take_number.proofs.Figures.{at_there, at-not, no_minus, behind-minus, number-stops, number-taken}
use Rattle.take_number.proofs.take_number.Goals as goal

pub take_under-requires : goal.take_under-requires
take_under-requires c = omega (arith, (at_there c.args.row.now c.args.at 45 (sym c.is_at.ensures ∙ c.if-is_at.true)).0)

pub returns-then-below-gt0 : goal.returns-then-below-gt0
returns-then-below-gt0 c =
    let m = at_there c.args.row.now c.args.at 45 (sym c.is_at.ensures ∙ c.if-is_at.true) in
    behind-minus _ _ _ _ c.requires m.0 m.1 c.if-below-gt0.true c.take_under.ensures

pub returns-then-is_at : goal.returns-then-is_at
returns-then-is_at c = no_minus _ _ _ _ c.requires (at_there c.args.row.now c.args.at 45 (sym c.is_at.ensures ∙ c.if-is_at.true)).1 (omega arith)

pub returns-in_err-d : goal.returns-in_err-d
returns-in_err-d c = let p = err_from_is_err_and c.from_residual.result c.from_residual.ensures.1 in rw (p.1, p.2) (number-stops _ _ _ _ c.requires (at-not c.args.row.now c.args.at 45 (sym c.is_at.ensures ∙ c.if-is_at.false)) c.in_err-d.ensures)

pub returns : goal.returns
returns c = number-taken _ _ _ _ c.requires (at-not c.args.row.now c.args.at 45 (sym c.is_at.ensures ∙ c.if-is_at.false)) c.in_ok-d.ensures c.take_digits.ensures.0
