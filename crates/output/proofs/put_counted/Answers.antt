-- `output::put_counted` meets its contract: the count's bytes, and then the others behind them.
-- Assumes nothing.
use native.Mathlib.Omega.{arith}
use Rattle.wire.specs.Writing.{with_count}
use Rattle.output.proofs.Counting.{puts-both}
use Rattle.output.proofs.put_counted.Goals as goal

pub returns : goal.returns
unfolding with_count
returns c = puts-both (omega arith) c.put_varint-next.ensures c.put_bytes.ensures
