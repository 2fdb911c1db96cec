-- `put_quoted::quotes` meets its contract: a text without a quote has no byte more.
-- Assumes nothing.
use mathlib.Core.Path.{sym, ◌∙◌}
use Rattle.put_quoted.proofs.Quoting.{none_more}
use Rattle.put_quoted.proofs.quotes.Goals as goal

pub returns : goal.returns
returns c = none_more _ (sym c.has_quote.ensures ∙ c.if-has_quote.false)
