-- `table::is_leaf` meets its contract: where the front is low, the test of b is left.
-- Assumes nothing.
use native.Mathlib.Omega.{arith}
use borrow.Author.Tests.{lt-ltb, le-ltb}
use Rattle.wire.specs.Tests.{both}
use Rattle.table.proofs.is_leaf.Goals as goal

pub returns-then-front-lt15 : goal.returns-then-front-lt15
unfolding both
returns-then-front-lt15 c = rw (← c.u32_at-front.ensures.0, ← c.u16_at-b.ensures.0, lt-ltb c.u32_at-front.result 15 (omega arith))

pub returns : goal.returns
unfolding both
returns c = rw (← c.u32_at-front.ensures.0, le-ltb c.u32_at-front.result 15 (omega arith))
