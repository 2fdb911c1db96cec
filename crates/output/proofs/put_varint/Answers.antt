-- `output::put_varint` meets its contract: no place, a place for every byte, or what `varint::put` stores.
-- Assumes nothing.
use native.Mathlib.Omega.{arith}
use Rattle.output.proofs.Counting.{puts-beyond}
use Rattle.output.proofs.Varints.{puts-varint}
use Rattle.output.proofs.put_varint.Goals as goal

pub returns-then-len-used : goal.returns-then-len-used
returns-then-len-used c = puts-beyond (omega arith) c.size-size.ensures c.add.ensures

pub returns : goal.returns
returns c = puts-varint _ _ c.put-n.ensures c.add-2.ensures
