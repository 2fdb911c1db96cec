-- `batch::write` meets its contract.
-- Assumes nothing.
use mathlib.Core.Path.{sym, ◌∙◌}
use Rattle.laws.proofs.Answers.{handed-up}
use Rattle.laws.proofs.Tables.{good-table}
use Rattle.batch.proofs.Writing.{write-table, write-unfit, fitting-of, write-all}
use Rattle.batch.proofs.write.Goals as goal

pub fields_of-requires : goal.fields_of-requires
fields_of-requires c = good-table _ _ (sym c.check.ensures ∙ c.in_ok-layout.was)

pub returns-in_default : goal.returns-in_default
returns-in_default c = write-unfit _ _ _ _ _ c.check.ensures c.in_ok-layout.was c.fields_of.ensures c.in_default.is

pub write_by-requires : goal.write_by-requires
write_by-requires c = (fitting-of c.fields_of.ensures c.in-Some.is)

pub returns-in_err-layout : goal.returns-in_err-layout
returns-in_err-layout c = rw (handed-up c.from_residual.ensures) (write-table _ _ _ _ _ c.check.ensures c.in_err-layout.was)

pub returns : goal.returns
returns c = write-all _ _ _ _ _ c.check.ensures c.in_ok-layout.was (fitting-of c.fields_of.ensures c.in-Some.is) c.write_by.ensures
