-- `take_text::take_text` meets its contract: no quote, or what stands behind it.
-- Assumes nothing.
use mathlib.Core.Path.{sym, ◌∙◌}
use native.Mathlib.Omega.{arith}
use Rattle.take_text.proofs.Marking.{quote-there, opened, not_opened}
use Rattle.take_text.proofs.take_text.Goals as goal

pub overflow_add-at : goal.overflow_add-at
overflow_add-at c = omega (arith, (quote-there c.args.row.now c.args.at (sym c.is_at.ensures ∙ c.if-is_at.true)).0)

pub inside-requires : goal.inside-requires
inside-requires c = omega (arith, (quote-there c.args.row.now c.args.at (sym c.is_at.ensures ∙ c.if-is_at.true)).0)

pub returns-then-is_at : goal.returns-then-is_at
returns-then-is_at c = opened _ _ _ (sym c.is_at.ensures ∙ c.if-is_at.true) c.inside.ensures

pub returns : goal.returns
returns c = not_opened _ _ _ c.requires (sym c.is_at.ensures ∙ c.if-is_at.false)
