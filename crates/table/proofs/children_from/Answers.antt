-- `table::children_from` meets its contract, by the ranges of the match.
-- Assumes nothing.
use native.Mathlib.Omega.{arith}
use Rattle.wire.specs.Table.{record_of}
use Rattle.table.proofs.Numbered.{from-record, from_list, from-high}
use Rattle.table.proofs.children_from.Goals as goal

pub overflow_mul-own : goal.overflow_mul-own
unfolding record_of
overflow_mul-own c = omega arith

pub overflow_add-own : goal.overflow_add-own
unfolding record_of
overflow_add-own c = omega arith

pub overflow_add-own-2 : goal.overflow_add-own-2
unfolding record_of
overflow_add-own-2 c = omega arith

pub returns-in-0-to-17 : goal.returns-in-0-to-17
unfolding record_of
returns-in-0-to-17 c = from-record _ _ _ _ (omega arith)

pub returns-in-18 : goal.returns-in-18
returns-in-18 c = from_list _ _ _ _ (omega arith) (omega arith)

pub returns-in_default : goal.returns-in_default
unfolding record_of
returns-in_default c = from-high _ _ _ _ (omega arith)
