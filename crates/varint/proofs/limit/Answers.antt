-- `varint::limit` meets its contract.
-- Assumes nothing.
use mathlib.Core.Path.{sym}
use native.Mathlib.Omega.{arith}
use Rattle.varint.proofs.Reading.{limit-none, limit-some, limit-ten, limit-many}
use Rattle.varint.proofs.limit.Goals as goal

pub returns-in-10 : goal.returns-in-10
returns-in-10 c = sym (limit-ten _ (omega arith))

pub returns-in-1-to-9 : goal.returns-in-1-to-9
returns-in-1-to-9 c = sym (limit-some _ (omega arith) (omega arith))

pub returns-in_default : goal.returns-in_default
returns-in_default c = sym (limit-none _ (omega arith))

pub returns-in_default-2 : goal.returns-in_default-2
returns-in_default-2 c = sym (limit-many _ (omega arith))
