-- `telling::compared` meets its contract, case by case.
-- Assumes nothing.
use mathlib.Core.Path.{ap, ◌∙◌}
use Rattle.std.specs.Prelude.{Err}
use Rattle.telling.proofs.Told.{compare-done, compare-short, compare-refused, compare-other}
use Rattle.telling.proofs.compared.Goals as goal

pub returns-in-Ok : goal.returns-in-Ok
returns-in-Ok c = compare-done c.in-Ok.is

pub returns-in-Short : goal.returns-in-Short
returns-in-Short c = compare-short (c.in-Err.is ∙ ap Err c.in-Short.is)

pub returns-in-Refused : goal.returns-in-Refused
returns-in-Refused c = compare-refused (c.in-Err.is ∙ ap Err c.in-Refused.is) c.refusal.ensures

pub returns-in-OtherRefused : goal.returns-in-OtherRefused
returns-in-OtherRefused c = compare-other (c.in-Err.is ∙ ap Err c.in-OtherRefused.is) c.refusal-in-OtherRefused.ensures
