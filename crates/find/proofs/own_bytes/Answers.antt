-- `find::own_bytes` meets its contract: an option's flag, and a struct's no bytes.
-- Assumes nothing.
use native.Mathlib.Omega.{arith}
use Rattle.find.proofs.Passing.{owns-option, owns-struct}
use Rattle.find.proofs.own_bytes.Goals as goal

pub returns-in-15 : goal.returns-in-15
returns-in-15 c = owns-option _ _ c.in-15.is c.take_flag.ensures

pub returns-in_default : goal.returns-in_default
returns-in_default c = owns-struct _ _ c.requires (λ e. omega arith)
