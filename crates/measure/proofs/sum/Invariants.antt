-- `measure::sum` ends: each varint takes a byte at least.
-- Assumes nothing.
use Rattle.std.proofs.Common.{length}
use Rattle.measure.proofs.sum.Given as goal

abbrev pub invariant-loop-rest : goal.invariant-loop-rest
invariant-loop-rest g l = Unit {0}

abbrev pub decreases-loop-rest : goal.decreases-loop-rest
decreases-loop-rest g l = length l.rest
