-- `messages::skim` meets its contract: of no items nothing is read.
-- Assumes nothing.
use mathlib.Core.Path.{ap, ◌∙◌}
use Rattle.messages.specs.Steps.{skimmed}
use Rattle.messages.proofs.Steps.{skim-empty, skim-mapped}
use borrow.Author.Rules.{rules}
use Rattle.messages.proofs.skim.Goals as goal

pub returns-then-width-eq0 : goal.returns-then-width-eq0
returns-then-width-eq0 c = skim-empty _ _ _ _ _ _ c.if-width-eq0.true

pub returns : goal.returns
returns c = skim-mapped c.args.table.now c.args.l c.skim_row.result _ c.map_err.ensures.cases (λ e d h. search rules) ∙ ap skimmed c.skim_row.ensures
