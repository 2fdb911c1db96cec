-- Each part that the contract names is an equation, so that it leaves no choice.
-- Assumes nothing.
use mathlib.Core.Path.{sym, ap₂, ◌∙◌}
use Rattle.append.specs.Promise.{OneAnswer}

pub one_answer : OneAnswer
one_answer old new area x y f g = ap₂ (λ a s. (a, s)) (f.answered ∙ sym g.answered) (f.stored ∙ sym g.stored)
