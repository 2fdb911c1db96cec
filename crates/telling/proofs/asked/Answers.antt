-- `telling::asked` meets its contract, case by case.
-- Assumes nothing.
use mathlib.Core.Path.{ap, ◌∙◌}
use Rattle.std.specs.Prelude.{Err}
use Rattle.telling.proofs.Told.{ask-says, ask-refused, ask-short}
use Rattle.telling.proofs.asked.Goals as goal

pub returns-in-Ok : goal.returns-in-Ok
returns-in-Ok c = ask-says c.in-Ok.is c.yes.ensures

pub returns-in-Table : goal.returns-in-Table
returns-in-Table c = ask-refused (c.in-Err.is ∙ ap Err c.in-Table.is) c.refusal.ensures c.side.ensures

pub returns-in-ShortArea : goal.returns-in-ShortArea
returns-in-ShortArea c = ask-short (c.in-Err.is ∙ ap Err c.in-ShortArea.is)
