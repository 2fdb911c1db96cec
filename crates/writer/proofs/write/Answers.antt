-- `writer::write` meets its contract, by the table's check.
-- Assumes nothing.
use mathlib.Core.Path.{sym, ◌∙◌}
use Rattle.laws.proofs.Answers.{handed-up}
use Rattle.writer.proofs.Promised.{writes-bad}
use Rattle.writer.proofs.write.Goals as goal

pub write_list-requires : goal.write_list-requires
write_list-requires c = sym c.check.ensures ∙ c.in_ok-layout.was

pub returns-in_err-layout : goal.returns-in_err-layout
returns-in_err-layout c = rw (handed-up c.from_residual.ensures) (writes-bad _ _ _ _ (sym c.check.ensures ∙ c.in_err-layout.was))

pub returns : goal.returns
returns c = c.write_list.ensures
