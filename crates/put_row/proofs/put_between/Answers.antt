-- `put_row::put_between` meets its contract: nothing, or a comma.
-- Assumes nothing.
use native.Mathlib.Omega.{arith}
use Rattle.put_number.proofs.Laying.{lays-puts}
use Rattle.put_row.proofs.Telling.{no-separator, a-separator, nothing-more}
use Rattle.put_row.proofs.put_between.Goals as goal

pub returns-then-first : goal.returns-then-first
returns-then-first c = rw (no-separator _ c.if-first.true) (nothing-more _ _ (omega arith))

pub returns : goal.returns
returns c = rw (a-separator _ c.if-first.false) (lays-puts c.put_byte.ensures)
