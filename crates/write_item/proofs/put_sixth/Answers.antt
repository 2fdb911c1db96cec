-- `write_item::put_sixth` meets its contract, by the width.
-- Assumes nothing.
use native.Mathlib.Omega.{arith}
use Rattle.wire.specs.Shape.{size}
use Rattle.write_item.proofs.Sixths.{width-16, width-32, width-64}
use Rattle.write_item.proofs.put_sixth.Goals as goal

pub returns-in-0 : goal.returns-in-0
unfolding size
returns-in-0 c = rw (width-16 c.args.k (omega arith), ← c.bytes.ensures) c.put_bytes.ensures

pub returns-in-1 : goal.returns-in-1
unfolding size
returns-in-1 c = rw (width-32 c.args.k (omega arith), ← c.bytes-in-1.ensures) c.put_bytes-in-1.ensures

pub returns-in_default : goal.returns-in_default
unfolding size
returns-in_default c = rw (width-64 c.args.k (λ e. omega arith) (λ e. omega arith), ← c.bytes-in_default.ensures) c.put_bytes-in_default.ensures
