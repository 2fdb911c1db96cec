-- `columns::is_field` meets its contract, range by range.
-- Assumes nothing.
use native.Mathlib.Omega.{arith}
use Rattle.columns.proofs.Styled.{styled-low, styled-high, styled-not}
use Rattle.columns.proofs.is_field.Goals as goal

pub returns-in-0-to-13 : goal.returns-in-0-to-13
returns-in-0-to-13 c = styled-low _ (omega arith)

pub returns-in-20-to-31 : goal.returns-in-20-to-31
returns-in-20-to-31 c = styled-high _ (omega arith) (omega arith)

pub returns-in_default : goal.returns-in_default
returns-in_default c = styled-not _ (omega arith) (λ h. omega arith)

pub returns-in_default-2 : goal.returns-in_default-2
returns-in_default-2 c = styled-not _ (omega arith) (λ h. omega arith)
