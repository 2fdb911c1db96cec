-- `find::is_there` meets its contract: a path goes through options and structs only.
-- Assumes nothing.
use mathlib.Core.Path.{ap, ◌∙◌}
use mathlib.Core.Bool.{not}
use borrow.Author.Tests.{ne_eqb}
use Rattle.find.proofs.Passing.{there-option, there-struct}
use Rattle.find.proofs.is_there.Goals as goal

pub returns-then-number-ne15 : goal.returns-then-number-ne15
returns-then-number-ne15 c = ap not (ne_eqb _ 15 c.if-number-ne15.true) ∙ there-struct _ _ c.requires c.if-number-ne15.true

pub returns-else-number-ne15 : goal.returns-else-number-ne15
returns-else-number-ne15 c = there-option _ _ c.if-number-ne15.false
