-- `telling::row` meets its contract, case by case.
-- Assumes nothing.
use mathlib.Core.Path.{ap, ◌∙◌}
use Rattle.std.specs.Prelude.{Err}
use Rattle.telling.proofs.Told.{row_done, row-refused, row-unfit, row-none}
use Rattle.telling.proofs.row.Goals as goal

pub returns-in-Ok : goal.returns-in-Ok
returns-in-Ok c = row_done c.in-Ok.is

pub returns-in-Refused : goal.returns-in-Refused
returns-in-Refused c = row-refused (c.in-Err.is ∙ ap Err c.in-Refused.is) c.refusal.ensures

pub returns-in-Unfit : goal.returns-in-Unfit
returns-in-Unfit c = row-unfit (c.in-Err.is ∙ ap Err c.in-Unfit.is)

pub returns-in-NoRow : goal.returns-in-NoRow
returns-in-NoRow c = row-none (c.in-Err.is ∙ ap Err c.in-NoRow.is)
