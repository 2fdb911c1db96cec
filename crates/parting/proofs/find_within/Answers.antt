-- `parting::find_within` meets its contract: what the check says of the old table decides.
-- Assumes nothing.
use mathlib.Core.Path.{sym, ◌∙◌}
use Rattle.parting.proofs.Promise.{refused-old}
use Rattle.parting.proofs.find_within.Goals as goal

pub after_old-requires : goal.after_old-requires
after_old-requires c = record { value = sym c.check.ensures ∙ c.in-Ok.is; area_bytes_in_bounds = c.requires }

pub returns-in-Err : goal.returns-in-Err
returns-in-Err c = refused-old _ _ _ (sym c.check.ensures ∙ c.in-Err.is)
