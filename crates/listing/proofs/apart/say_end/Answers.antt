-- A table that passes the check is good.
use Rattle.std.proofs.Common.{sym, ◌∙◌}
use Rattle.laws.proofs.Tables.{good-table}
use Rattle.listing.proofs.apart.say_end.Goals as goal

pub node_at-requires : goal.node_at-requires
node_at-requires g c = good-table _ _ (sym c.check.ensures ∙ c.in-Ok.is)

pub say_node-requires-clause-good_table : goal.say_node-requires-clause-good_table
say_node-requires-clause-good_table g c = good-table _ _ (sym c.check.ensures ∙ c.in-Ok.is)
