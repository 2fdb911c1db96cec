-- The contract is an equation.
-- Assumes nothing.
use Rattle.wire.specs.Table.{check}
use Rattle.laws.proofs.Unique.{by-equation}
use Rattle.table.specs.Promise.{OneCheck}

pub one-check : OneCheck
one-check table = by-equation (check table)
