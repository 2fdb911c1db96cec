-- `zigzag::zigzag` meets its contract.
-- Assumes nothing.
use mathlib.Core.Path.{sym}
use native.Mathlib.Omega.{arith}
use Rattle.laws.proofs.Numbers.{zigzag-low, zigzag-high}
use Rattle.zigzag.proofs.zigzag.Goals as goal

pub returns-then-a-lt-HALF : goal.returns-then-a-lt-HALF
returns-then-a-lt-HALF c = sym (zigzag-low _ c.if-a-lt-HALF.true)

pub returns : goal.returns
returns c = rw (zigzag-high _ c.if-a-lt-HALF.false) (omega arith)
