-- `take_text::is_whole` meets its contract: of a text, and of a char.
-- Assumes nothing.
use mathlib.Core.Path.{refl}
use mathlib.Core.Bool.{false}
use Rattle.take_text.proofs.Marking.{whole-one, whole-any}
use Rattle.take_text.proofs.is_whole.Goals as goal

pub returns-then-not-one : goal.returns-then-not-one
returns-then-not-one c = let e = c.if-not-one.true in rw e (whole-any false _ refl)

pub returns-else-not-one : goal.returns-else-not-one
returns-else-not-one c = whole-one _ _ c.if-not-one.false
