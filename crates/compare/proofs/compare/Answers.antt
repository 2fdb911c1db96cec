-- `compare::compare` meets its contract: the table's refusal, or what a good table gives.
-- Assumes nothing.
use mathlib.Core.Path.{sym, ◌∙◌}
use Rattle.laws.proofs.Answers.{handed-up}
use Rattle.compare.proofs.Promised.{bad-compares}
use Rattle.compare.proofs.compare.Goals as goal

pub compare_good-requires : goal.compare_good-requires
compare_good-requires c = sym c.check.ensures ∙ c.in_ok-layout.was

pub returns-in_err-layout : goal.returns-in_err-layout
returns-in_err-layout c = rw (handed-up c.from_residual.ensures) (bad-compares _ _ _ _ (sym c.check.ensures ∙ c.in_err-layout.was))
