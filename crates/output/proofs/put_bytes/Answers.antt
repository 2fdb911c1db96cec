-- `output::put_bytes` meets its contract: the bytes from `i` on are left, and there is a place for each that is stored.
-- Assumes nothing.
use mathlib.Core.Path.{refl}
use native.Mathlib.Omega.{arith}
use Rattle.output.proofs.Counting.{putting-begin, putting-next, putting-end}
use Rattle.output.proofs.put_bytes.Goals as goal

pub loop-i-init : goal.loop-i-init
loop-i-init c = putting-begin _ _ _ _

pub loop-i-preserved : goal.loop-i-preserved
loop-i-preserved c = putting-next c.loop-i.invariant c.places-count.ensures _ (omega arith) refl

pub returns : goal.returns
returns c = putting-end c.loop-i.invariant c.places-count.ensures c.add.ensures (omega arith)
