-- A table that passes the check is good.
use Rattle.std.proofs.Common.{sym, ◌∙◌}
use Rattle.laws.proofs.Tables.{good-table}
use Rattle.listing.proofs.found.show.Goals as goal

pub show_found-requires : goal.show_found-requires
show_found-requires g c = good-table _ _ (sym c.check.ensures ∙ c.in-Ok.is)
