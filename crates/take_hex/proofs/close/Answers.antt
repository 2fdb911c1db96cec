-- `take_hex::close` meets its contract: the closing quote, or another byte.
-- Assumes nothing.
use mathlib.Core.Path.{sym, ◌∙◌}
use native.Mathlib.Omega.{arith}
use Rattle.take_text.proofs.Marking.{quote-there}
use Rattle.take_hex.proofs.Counting.{closes, closes-not}
use Rattle.take_hex.proofs.close.Goals as goal

pub overflow_add-result : goal.overflow_add-result
overflow_add-result c = omega (arith, (quote-there c.args.row.now c.args.at (sym c.is_at.ensures ∙ c.if-is_at.true)).0)

pub returns-then-is_at : goal.returns-then-is_at
returns-then-is_at c = closes _ _ _ (sym c.is_at.ensures ∙ c.if-is_at.true)

pub returns : goal.returns
returns c = closes-not _ _ _ c.requires.at_in_bounds c.requires.at_value (sym c.is_at.ensures ∙ c.if-is_at.false)
