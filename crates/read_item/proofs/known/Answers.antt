-- `read_item::known` meets its contract: a refusal is handed up, and a variant's number is tested.
-- Assumes nothing.
use native.Mathlib.Omega.{arith}
use Rattle.read_item.proofs.Heads.{known-refused, known-good, known-not}
use Rattle.read_item.proofs.known.Goals as goal

pub returns-in_default : goal.returns-in_default
returns-in_default c = known-refused _ _ c.in_default.is

pub returns-then-own-count : goal.returns-then-own-count
returns-then-own-count c = known-good _ _ c.in-Ok.is (omega arith)

pub returns : goal.returns
returns c = known-not _ _ c.in-Ok.is (omega arith)
