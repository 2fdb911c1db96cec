-- `take_text::may_go_on` meets its contract: of a text, and of a char.
-- Assumes nothing.
use mathlib.Core.Path.{refl}
use mathlib.Core.Bool.{false}
use Rattle.take_text.proofs.Marking.{may-one, may-any}
use Rattle.take_text.proofs.may_go_on.Goals as goal

pub returns-then-not-one : goal.returns-then-not-one
returns-then-not-one c = let e = c.if-not-one.true in rw e (may-any false _ refl)

pub returns-else-not-one : goal.returns-else-not-one
returns-else-not-one c = may-one _ _ c.if-not-one.false
