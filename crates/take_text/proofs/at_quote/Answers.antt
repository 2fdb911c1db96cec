-- `take_text::at_quote` meets its contract: two quotes, or one, which closes where the spelling is whole.
-- Assumes nothing.
use mathlib.Core.Path.{sym, ◌∙◌}
use native.Mathlib.Omega.{arith}
use Rattle.take_text.proofs.Marking.{quote-there, two-quotes, closing-quote, empty-quote}
use Rattle.take_text.proofs.at_quote.Goals as goal

pub overflow_add-next : goal.overflow_add-next
overflow_add-next c = omega (arith, (quote-there c.args.row.now c.args.at c.requires).0)

pub overflow_add-result : goal.overflow_add-result
overflow_add-result c = omega (arith, (quote-there c.args.row.now c.args.at c.requires).0)

pub returns-then-goes_on : goal.returns-then-goes_on
returns-then-goes_on c = two-quotes _ _ _ _ c.requires c.goes_on.ensures c.if-goes_on.true

pub returns-then-is_whole : goal.returns-then-is_whole
returns-then-is_whole c = closing-quote _ _ _ _ c.requires c.goes_on.ensures c.if-goes_on.false (sym c.is_whole.ensures ∙ c.if-is_whole.true)

pub returns : goal.returns
returns c = empty-quote _ _ _ _ c.requires c.goes_on.ensures c.if-goes_on.false (sym c.is_whole.ensures ∙ c.if-is_whole.false)
