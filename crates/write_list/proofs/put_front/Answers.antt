-- `write_list::put_front` meets its contract: the row behind the entry that heads it is the whole list, of which integers were put first and then other leaves.
-- Assumes nothing.
use native.Mathlib.Omega.{arith}
use Rattle.laws.proofs.Tables.{good-table}
use Rattle.table.proofs.Stretches.{root-falls, flat-falls}
use Rattle.write_list.proofs.Going.{few_bytes}
use Rattle.write_list.proofs.Rounds.{flattens}
use Rattle.write_list.proofs.Fronts.{reaches-on, ints-reach}
use Rattle.write_list.proofs.put_front.Goals as goal

pub root_at-from-requires : goal.root_at-from-requires
root_at-from-requires c = omega (arith, (good-table _ _ c.requires).children-end)

pub flat-way-requires : goal.flat-way-requires
flat-way-requires c = record { good_table = good-table _ _ c.requires; node_le_nodes = omega arith; falls = root-falls _ c.requires _ c.root_at-from.ensures }

pub put_nothing-requires : goal.put_nothing-requires
put_nothing-requires c = c.requires

pub returns-in_default : goal.returns-in_default
returns-in_default c = c.put_nothing.ensures.all _ _ _

pub put_ints-ints-requires : goal.put_ints-ints-requires
put_ints-ints-requires c = let g = good-table _ _ c.requires in record { good_table = g; falls = flat-falls g (omega arith) c.flat-way.ensures }

pub returns-then-ints-eq0 : goal.returns-then-ints-eq0
returns-then-ints-eq0 c = ints-reach _ c.requires _ c.root_at-from.ensures (flattens (good-table _ _ c.requires) (omega arith) c.flat-way.ensures) c.begin-begun.ensures c.in-Some.is c.put_ints-ints.ensures _

pub put_leaves-requires : goal.put_leaves-requires
put_leaves-requires c = record { good_table = good-table _ _ c.requires; falls = c.put_ints-ints.ensures.falls }

pub returns : goal.returns
returns c = reaches-on (few_bytes _ c.well_formed.1.1.1.1.0.1) (ints-reach _ c.requires _ c.root_at-from.ensures (flattens (good-table _ _ c.requires) (omega arith) c.flat-way.ensures) c.begin-begun.ensures c.in-Some.is c.put_ints-ints.ensures _) c.put_leaves.ensures
