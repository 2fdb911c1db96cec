-- `table::follow` meets its contract, by the ranges of the match. A variant that is known is among the children, so its number's offset fits.
-- Assumes nothing.
use native.Mathlib.Omega.{arith}
use Rattle.table.proofs.Numbered.{to_low, to-count, to_fields, to-variant, to_high, known-variant}
use Rattle.table.proofs.follow.Goals as goal

pub overflow_mul-result : goal.overflow_mul-result
overflow_mul-result c = let a = c.args in let v = known-variant a.first a.from a.width a.number (omega arith) c.requires.width_value in omega arith

pub overflow_add-result : goal.overflow_add-result
overflow_add-result c = let a = c.args in let v = known-variant a.first a.from a.width a.number (omega arith) c.requires.width_value in omega arith

pub returns-in-18 : goal.returns-in-18
returns-in-18 c = to_fields _ _ _ _ (omega arith)

pub returns-in-19 : goal.returns-in-19
returns-in-19 c = to-variant _ _ _ _ (omega arith)

pub returns-in-0-to-14 : goal.returns-in-0-to-14
returns-in-0-to-14 c = to_low _ _ _ _ (omega arith)

pub returns-in-15-to-17 : goal.returns-in-15-to-17
returns-in-15-to-17 c = to-count _ _ _ _ (omega arith) (omega arith)

pub returns-in_default : goal.returns-in_default
returns-in_default c = to_high _ _ _ _ (omega arith)
