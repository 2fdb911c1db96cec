-- `find::is_passed` meets its contract, number by number.
-- Assumes nothing.
use mathlib.Core.Path.{◌∙◌}
use borrow.Author.Tests.{ne_eqb, eq-eqb}
use Rattle.laws.proofs.Splits.{by-eq}
use Rattle.find.proofs.Passing.{passed-option, passed-struct, passed-not}
use Rattle.find.proofs.is_passed.Goals as goal

pub returns-then-number-eq15 : goal.returns-then-number-eq15
returns-then-number-eq15 c = eq-eqb _ 15 c.if-number-eq15.true ∙ passed-option _ c.if-number-eq15.true

pub returns-else-number-eq15 : goal.returns-else-number-eq15
returns-else-number-eq15 c =
    by-eq _ 18 (λ e. eq-eqb _ 18 e ∙ passed-struct _ e) (λ other. ne_eqb _ 18 other ∙ passed-not _ c.if-number-eq15.false other)
