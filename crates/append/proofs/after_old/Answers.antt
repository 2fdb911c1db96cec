-- `append::after_old` meets its contract: what the check says of the new table decides.
-- Assumes nothing.
use mathlib.Core.Path.{sym, ◌∙◌}
use Rattle.wire.specs.Answers.{ask_by}
use Rattle.laws.proofs.Tables.{good-table, within-limits}
use Rattle.append.proofs.after_old.Goals as goal

pub roots_append-requires : goal.roots_append-requires
roots_append-requires c = let pre = c.requires in
    let good = sym c.check.ensures ∙ c.in-Ok.is in
    record { old = pre.good_table.0; new = good-table _ _ good; few-old = pre.good_table.1; few-new = within-limits _ _ good; room = pre.area_bytes_in_bounds }

pub returns-in-Err : goal.returns-in-Err
unfolding ask_by
returns-in-Err c = rw (sym c.check.ensures ∙ c.in-Err.is)

pub returns-in-Ok : goal.returns-in-Ok
unfolding ask_by
returns-in-Ok c = rw (sym c.check.ensures ∙ c.in-Ok.is, c.roots_append.ensures.answer)
