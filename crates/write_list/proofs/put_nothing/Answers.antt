-- `write_list::put_nothing` meets its contract: the root alone is a row.
-- Assumes nothing.
use native.Mathlib.Omega.{arith}
use Rattle.laws.proofs.Tables.{good-table}
use Rattle.write_list.proofs.Fronts.{nothing_put}
use Rattle.write_list.proofs.put_nothing.Goals as goal

pub root_at-from-requires : goal.root_at-from-requires
root_at-from-requires c = omega (arith, (good-table _ _ c.requires).children-end)

pub returns : goal.returns
returns c = nothing_put _ c.requires _ c.root_at-from.ensures
