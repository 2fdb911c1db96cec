-- `find::find` meets its contract: the table's refusal, no such item, or the answer along the path.
-- Assumes nothing.
use mathlib.Core.Path.{sym, ◌∙◌}
use Rattle.laws.proofs.Tables.{good-table}
use Rattle.laws.proofs.Answers.{handed-up}
use Rattle.find.proofs.Promise.{finds-bad, finds-none, finds-some}
use Rattle.find.proofs.find.Goals as goal

pub leads-requires : goal.leads-requires
leads-requires c = good-table _ _ (sym c.check.ensures ∙ c.in_ok-layout.was)

pub seek-requires : goal.seek-requires
seek-requires c = let good = sym c.check.ensures ∙ c.in_ok-layout.was in record { good_table = good-table _ _ good; path_value = sym c.leads.ensures ∙ c.if-not-leads.false }

pub returns-in_err-layout : goal.returns-in_err-layout
returns-in_err-layout c = handed-up c.from_residual.ensures ∙ finds-bad _ _ _ (sym c.check.ensures ∙ c.in_err-layout.was)

pub returns-then-not-leads : goal.returns-then-not-leads
returns-then-not-leads c = let good = sym c.check.ensures ∙ c.in_ok-layout.was in
    finds-none _ _ _ good (sym c.leads.ensures ∙ c.if-not-leads.true)

pub returns : goal.returns
returns c = let good = sym c.check.ensures ∙ c.in_ok-layout.was in
    c.seek.ensures ∙ finds-some _ _ _ good (sym c.leads.ensures ∙ c.if-not-leads.false)
