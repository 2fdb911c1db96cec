-- `take_row::start_of` meets its contract: the first field, a comma, or none.
-- Assumes nothing.
use mathlib.Core.Path.{sym, ◌∙◌}
use native.Mathlib.Omega.{arith}
use Rattle.desk.specs.Csv.{comma}
use Rattle.take_number.proofs.Figures.{at_there}
use Rattle.take_row.specs.Messages.{begins, behind_comma, no_comma}
use Rattle.take_row.proofs.start_of.Goals as goal

pub returns-then-first : goal.returns-then-first
returns-then-first c = begins c.if-first.true

pub overflow_add-result : goal.overflow_add-result
overflow_add-result c = omega (arith, (at_there c.args.row.now c.args.at comma (sym c.is_at.ensures ∙ c.if-is_at.true)).0)

pub returns-then-is_at : goal.returns-then-is_at
returns-then-is_at c = behind_comma c.if-first.false (sym c.is_at.ensures ∙ c.if-is_at.true)

pub returns : goal.returns
returns c = no_comma c.if-first.false (sym c.is_at.ensures ∙ c.if-is_at.false)
