-- `zigzag::half_of` meets its contract.
-- Assumes nothing.
use native.Mathlib.Omega.{arith}
use Rattle.zigzag.proofs.Widths.{width-8, width-16, width-32, width-64}
use Rattle.zigzag.proofs.half_of.Goals as goal

pub returns-in-8 : goal.returns-in-8
returns-in-8 c = rw (width-8 c.args.bits (omega arith))

pub returns-in-16 : goal.returns-in-16
returns-in-16 c = rw (width-16 c.args.bits (omega arith))

pub returns-in-32 : goal.returns-in-32
returns-in-32 c = rw (width-32 c.args.bits (omega arith))

pub returns-in_default : goal.returns-in_default
returns-in_default c = rw (width-64 c.args.bits (λ e. omega arith) (λ e. omega arith) (λ e. omega arith))
