-- `append::ask` meets its contract: what the check says of the old table decides.
-- Assumes nothing.
use mathlib.Core.Path.{sym, ◌∙◌}
use Rattle.wire.specs.Answers.{ask_by}
use Rattle.laws.proofs.Tables.{good-table, within-limits}
use Rattle.append.proofs.ask.Goals as goal

pub after_old-requires : goal.after_old-requires
after_old-requires c = let good = sym c.check.ensures ∙ c.in-Ok.is in record { good_table = (good-table _ _ good, within-limits _ _ good); area_bytes_in_bounds = c.requires }

pub returns-in-Err : goal.returns-in-Err
unfolding ask_by
returns-in-Err c = rw (sym c.check.ensures ∙ c.in-Err.is)

pub returns-in-Ok : goal.returns-in-Ok
returns-in-Ok c = rw (sym c.check.ensures ∙ c.in-Ok.is) c.after_old.ensures
