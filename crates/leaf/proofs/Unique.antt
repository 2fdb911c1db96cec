-- Each contract is an equation.
-- Assumes nothing.
use Rattle.laws.proofs.Unique.{by-equation}
use Rattle.leaf.specs.Unique.{OneFlag, OneLeafTake, OneLeafUnzigzag, OneAnew}

pub one-flag : OneFlag
one-flag e s = by-equation _

pub one-leaf-take : OneLeafTake
one-leaf-take k p s = by-equation _

pub one-leaf-unzigzag : OneLeafUnzigzag
one-leaf-unzigzag i = by-equation _

pub one-anew : OneAnew
one-anew i = by-equation _
