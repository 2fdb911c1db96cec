-- `take_text::goes_on` meets its contract: no quote, or whether a byte may follow.
-- Assumes nothing.
use mathlib.Core.Path.{sym, ◌∙◌}
use Rattle.take_text.proofs.Marking.{both-test, both-none}
use Rattle.take_text.proofs.goes_on.Goals as goal

pub returns-then-is_at : goal.returns-then-is_at
returns-then-is_at c = c.may_go_on.ensures ∙ both-test _ _ (sym c.is_at.ensures ∙ c.if-is_at.true)

pub returns-else-is_at : goal.returns-else-is_at
returns-else-is_at c = c.if-is_at.false ∙ both-none _ _ (sym c.is_at.ensures ∙ c.if-is_at.false)
