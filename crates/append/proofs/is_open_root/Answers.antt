-- `append::is_open_root` meets its contract: a kind is known by its number.
-- Assumes nothing.
use native.Mathlib.Omega.{arith}
use borrow.Author.Tests.{eq-eqb, ne_eqb}
use Rattle.wire.specs.Tests.{pick}
use Rattle.laws.proofs.Numbering.{root-number}
use Rattle.append.proofs.is_open_root.Goals as goal

pub returns-then-number-eq18 : goal.returns-then-number-eq18
unfolding pick
returns-then-number-eq18 c = rw (root-number _ c.requires, eq-eqb _ 18 c.if-number-eq18.true)

pub returns-else-number-eq18 : goal.returns-else-number-eq18
unfolding pick
returns-else-number-eq18 c = rw (root-number _ c.requires, ne_eqb c.args.number 18 c.if-number-eq18.false)
