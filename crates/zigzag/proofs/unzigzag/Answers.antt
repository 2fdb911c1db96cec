-- `zigzag::unzigzag` meets its contract.
-- Assumes nothing.
use native.Mathlib.Omega.{arith}
use borrow.Author.Tests.{eq-eqb, ne_eqb}
use Rattle.wire.specs.Tests.{pick}
use Rattle.wire.specs.Numbers as numbers
use Rattle.zigzag.proofs.unzigzag.Goals as goal

pub returns-then-z-eq0 : goal.returns-then-z-eq0
unfolding numbers.unzigzag pick
returns-then-z-eq0 c = rw (eq-eqb _ _ c.if-z-eq0.true)

pub returns : goal.returns
unfolding numbers.unzigzag pick
returns c = rw (ne_eqb _ _ c.if-z-eq0.false) (omega arith)
