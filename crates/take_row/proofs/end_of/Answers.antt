-- `take_row::end_of` meets its contract, byte by byte.
-- Assumes nothing.
use mathlib.Core.Path.{sym, ◌∙◌}
use native.Mathlib.Omega.{arith}
use Rattle.take_number.proofs.Figures.{at_there}
use Rattle.take_row.specs.Messages.{ends, no_return, no_feed, goes_on}
use Rattle.take_row.proofs.end_of.Goals as goal

pub returns-then-not-is_at : goal.returns-then-not-is_at
returns-then-not-is_at c = no_return (sym c.is_at.ensures ∙ c.if-not-is_at.true)

pub overflow_add-next : goal.overflow_add-next
overflow_add-next c = omega (arith, (at_there c.args.row.now c.args.at 13 (sym c.is_at.ensures ∙ c.if-not-is_at.false)).0)

pub returns-then-not-is_at-2 : goal.returns-then-not-is_at-2
returns-then-not-is_at-2 c = no_feed (sym c.is_at.ensures ∙ c.if-not-is_at.false) (sym c.is_at-2.ensures ∙ c.if-not-is_at-2.true)

pub overflow_add-behind : goal.overflow_add-behind
overflow_add-behind c = omega (arith, (at_there c.args.row.now c.args.at 13 (sym c.is_at.ensures ∙ c.if-not-is_at.false)).0)

pub returns-then-behind-row : goal.returns-then-behind-row
returns-then-behind-row c = goes_on (sym c.is_at.ensures ∙ c.if-not-is_at.false) (sym c.is_at-2.ensures ∙ c.if-not-is_at-2.false) (omega arith)

pub returns : goal.returns
returns c = ends (sym c.is_at.ensures ∙ c.if-not-is_at.false) (sym c.is_at-2.ensures ∙ c.if-not-is_at-2.false) (omega arith)
