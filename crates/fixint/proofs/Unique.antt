-- Each contract is an equation.
-- Assumes nothing.
use Rattle.laws.proofs.Unique.{by-equation}
use Rattle.fixint.specs.Unique.{OneArray, OneFixedTake}

pub one-array : OneArray
one-array o w x = by-equation _

pub one-fixed-take : OneFixedTake
one-fixed-take l s = by-equation _
