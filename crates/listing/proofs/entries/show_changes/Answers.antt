-- A table that passes the check is good.
use Rattle.std.proofs.Common.{sym, ◌∙◌}
use Rattle.laws.proofs.Tables.{good-table}
use Rattle.listing.proofs.entries.show_changes.Goals as goal

pub show_entries-requires : goal.show_entries-requires
show_entries-requires g c = good-table _ _ (sym c.check.ensures ∙ c.in-Ok.is)
