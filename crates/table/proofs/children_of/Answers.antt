-- `table::children_of` meets its contract, by the ranges of the match.
-- Assumes nothing.
use native.Mathlib.Omega.{arith}
use Rattle.table.proofs.Numbered.{count_low, count-one, count_map, count-list, count-high}
use Rattle.table.proofs.children_of.Goals as goal

pub returns-in-17 : goal.returns-in-17
returns-in-17 c = count_map _ _ c.in-17.is

pub returns-in-0-to-14 : goal.returns-in-0-to-14
returns-in-0-to-14 c = count_low _ _ (omega arith)

pub returns-in-15 : goal.returns-in-15
returns-in-15 c = count-one _ _ (omega arith) (omega arith)

pub returns-in-18 : goal.returns-in-18
returns-in-18 c = count-list _ _ (omega arith) (omega arith)

pub returns-in_default : goal.returns-in_default
returns-in_default c = count-high _ _ (omega arith)
