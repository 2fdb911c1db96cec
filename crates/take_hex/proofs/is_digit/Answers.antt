-- `take_hex::is_digit` meets its contract: range by range.
-- Assumes nothing.
use native.Mathlib.Omega.{arith}
use Rattle.take_hex.proofs.Counting.{digit-hex, letter-hex, other-hex}
use Rattle.take_hex.proofs.is_digit.Goals as goal

pub returns-in-48-to-57 : goal.returns-in-48-to-57
returns-in-48-to-57 c = digit-hex c.args.b (omega arith) (omega arith)

pub returns-in-97-to-102 : goal.returns-in-97-to-102
returns-in-97-to-102 c = letter-hex c.args.b (omega arith) (omega arith)

pub returns-in_default : goal.returns-in_default
returns-in_default c = other-hex c.args.b (λ h. omega arith) (λ h. omega arith)

pub returns-in_default-2 : goal.returns-in_default-2
returns-in_default-2 c = other-hex c.args.b (λ h. omega arith) (λ h. omega arith)

pub returns-in_default-3 : goal.returns-in_default-3
returns-in_default-3 c = other-hex c.args.b (λ h. omega arith) (λ h. omega arith)
