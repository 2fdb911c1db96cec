-- `telling::opened` meets its contract, case by case.
-- Assumes nothing.
use mathlib.Core.Path.{ap, ◌∙◌}
use Rattle.std.specs.Prelude.{Err}
use Rattle.telling.proofs.Told.{open_done, open-refused, open-short}
use Rattle.telling.proofs.opened.Goals as goal

pub returns-in-Ok : goal.returns-in-Ok
returns-in-Ok c = open_done c.in-Ok.is

pub returns-in-Refused : goal.returns-in-Refused
returns-in-Refused c = open-refused (c.in-Err.is ∙ ap Err c.in-Refused.is) c.refusal.ensures

pub returns-in-ShortList : goal.returns-in-ShortList
returns-in-ShortList c = open-short (c.in-Err.is ∙ ap Err c.in-ShortList.is)
