-- `take_number::first_digit` meets its contract: a digit from the least to the most, another one, or none.
-- Assumes nothing.
use Rattle.take_number.proofs.Figures.{first-is, first-no, first-below, first-above}
use Rattle.take_number.proofs.first_digit.Goals as goal

pub returns-in-Some : goal.returns-in-Some
returns-in-Some c = first-is _ _ _ _ c.in-Some.ensures c.if-least-d.true c.if-d-most.true

pub returns-in_default : goal.returns-in_default
returns-in_default c = first-above _ _ _ _ c.in-Some.ensures c.if-d-most.false

pub returns-in_default-2 : goal.returns-in_default-2
returns-in_default-2 c = first-below _ _ _ _ c.in-Some.ensures c.if-least-d.false

pub returns-in_default-3 : goal.returns-in_default-3
returns-in_default-3 c = first-no _ _ _ _ (rw c.in_default.is at c.digit.ensures)
