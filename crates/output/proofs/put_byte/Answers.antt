-- `output::put_byte` meets its contract: a byte that has no place is dropped.
-- Assumes nothing.
use mathlib.Core.Path.{sym}
use native.Mathlib.Omega.{arith}
use lib.Seq.{set_out}
use borrow.Author.Rules.{rules}
use Rattle.output.proofs.put_byte.Goals as goal

pub returns-else-used-out : goal.returns-else-used-out
returns-else-used-out c = record { counted = search rules; stored = sym (set_out _ _ _ (omega arith)) }
