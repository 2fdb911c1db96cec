-- `find::is_field` meets its contract, range by range.
-- Assumes nothing.
use native.Mathlib.Omega.{arith}
use Rattle.find.proofs.Passing.{field-low, field-high, field-not}
use Rattle.find.proofs.is_field.Goals as goal

pub returns-in-0-to-13 : goal.returns-in-0-to-13
returns-in-0-to-13 c = field-low _ (omega arith)

pub returns-in-0-to-13-2 : goal.returns-in-0-to-13-2
returns-in-0-to-13-2 c = field-high _ (omega arith) (omega arith)

pub returns-in_default : goal.returns-in_default
returns-in_default c = field-not _ (omega arith) (λ h. omega arith)

pub returns-in_default-2 : goal.returns-in_default-2
returns-in_default-2 c = field-not _ (omega arith) (λ h. omega arith)
