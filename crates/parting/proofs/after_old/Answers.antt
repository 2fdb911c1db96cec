-- `parting::after_old` meets its contract: what the check says of the new table decides.
-- Assumes nothing.
use mathlib.Core.Path.{sym, ◌∙◌}
use Rattle.parting.proofs.Promise.{refused-new}
use Rattle.parting.proofs.after_old.Goals as goal

pub of_good-requires : goal.of_good-requires
of_good-requires c = record { value = (c.requires.value, sym c.check.ensures ∙ c.in-Ok.is); area_bytes_in_bounds = c.requires.area_bytes_in_bounds }

pub returns-in-Err : goal.returns-in-Err
returns-in-Err c = refused-new _ _ _ c.requires.value (sym c.check.ensures ∙ c.in-Err.is)
