-- `deserializer::may_take` meets its contract, range by range.
-- Assumes nothing.
use native.Mathlib.Omega.{arith}
use Rattle.deserializer.proofs.Taking.{low, high, between, above}
use Rattle.deserializer.proofs.may_take.Goals as goal

pub returns-in-0-to-13 : goal.returns-in-0-to-13
returns-in-0-to-13 c = low _ (omega arith)

pub returns-in-0-to-13-2 : goal.returns-in-0-to-13-2
returns-in-0-to-13-2 c = high _ (omega arith) (omega arith)

pub returns-in_default : goal.returns-in_default
returns-in_default c = between _ (omega arith) (omega arith)

pub returns-in_default-2 : goal.returns-in_default-2
returns-in_default-2 c = above _ (omega arith)
