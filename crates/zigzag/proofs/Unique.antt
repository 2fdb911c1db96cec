-- Each contract is an equation.
-- Assumes nothing.
use Rattle.laws.proofs.Unique.{by-equation}
use Rattle.zigzag.specs.Unique.{OneZigzag, OneUnzigzag, OneExtend, OneIsSigned}

pub one-zigzag : OneZigzag
one-zigzag a = by-equation _

pub one-unzigzag : OneUnzigzag
one-unzigzag z = by-equation _

pub one-extend : OneExtend
one-extend n x = by-equation _

pub one-is-signed : OneIsSigned
one-is-signed n a = by-equation _
