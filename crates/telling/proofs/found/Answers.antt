-- `telling::found` meets its contract, case by case.
-- Assumes nothing.
use mathlib.Core.Path.{ap, ◌∙◌}
use Rattle.std.specs.Prelude.{Err}
use Rattle.telling.proofs.Told.{find-found, find_none, find_absent, find-refused}
use Rattle.telling.proofs.found.Goals as goal

pub returns-in-Ok : goal.returns-in-Ok
returns-in-Ok c = find-found c.in-Ok.is

pub returns-in-NoItem : goal.returns-in-NoItem
returns-in-NoItem c = find_none (c.in-Err.is ∙ ap Err c.in-NoItem.is)

pub returns-in-Absent : goal.returns-in-Absent
returns-in-Absent c = find_absent (c.in-Err.is ∙ ap Err c.in-Absent.is)

pub returns-in-Refused : goal.returns-in-Refused
returns-in-Refused c = find-refused (c.in-Err.is ∙ ap Err c.in-Refused.is) c.refusal.ensures
