-- `compare_walk::walk_root` meets its contract: the rounds of the root are the whole shape.
-- Assumes nothing.
use native.Mathlib.Omega.{arith}
use Rattle.laws.proofs.Tables.{good-table}
use Rattle.table.proofs.Stretches.{root-falls, flat-falls}
use Rattle.compare_walk.proofs.Root.{root-gives}
use Rattle.compare_walk.proofs.walk_root.Goals as goal

pub root_at-root-requires : goal.root_at-root-requires
root_at-root-requires c = omega (arith, (good-table _ _ c.requires).children-end)

pub flat-way-requires : goal.flat-way-requires
flat-way-requires c = let good = c.requires in record { good_table = good-table _ _ good; node_le_nodes = omega arith; falls = root-falls _ good _ c.root_at-root.ensures }

pub walk_rounds-requires : goal.walk_rounds-requires
walk_rounds-requires c = let good = good-table _ _ c.requires in record { good_table = good; node_le_nodes = omega arith; falls = flat-falls good (omega arith) c.flat-way.ensures; part_bound = omega arith; other_bound = omega arith; count_le_ones = omega arith }

pub returns : goal.returns
returns c = root-gives _ _ _ _ _ c.requires c.root_at-root.ensures c.flat-way.ensures c.walk_rounds.ensures
