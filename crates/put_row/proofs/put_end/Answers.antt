-- `put_row::put_end` meets its contract: a byte behind a byte.
-- Assumes nothing.
use native.Mathlib.Omega.{arith}
use Rattle.put_number.proofs.Laying.{lays-puts, lays-both}
use Rattle.put_row.proofs.put_end.Goals as goal

pub returns : goal.returns
returns c = lays-both (omega arith) (lays-puts c.put_byte-next.ensures) (lays-puts c.put_byte.ensures)
