-- `measure::sum` ends: each varint takes a byte at least.
-- Assumes nothing.
use Rattle.std.proofs.Common.{arith, length-drop}
use Rattle.laws.proofs.Parts.{tail}
use Rattle.measure.proofs.Steps.{taken}
use Rattle.measure.proofs.sum.Goals as goal

pub slice_bounds-rest-count : goal.slice_bounds-rest-count
slice_bounds-rest-count g c = omega (arith, (taken _ _ _ c.take.ensures c.in-Ok.is).within)

pub slice_bounds-rest-start : goal.slice_bounds-rest-start
slice_bounds-rest-start g c = omega (arith, (taken _ _ _ c.take.ensures c.in-Ok.is).within)

pub loop-rest-smaller : goal.loop-rest-smaller
loop-rest-smaller g c = let t = taken _ _ _ c.take.ensures c.in-Ok.is in rw tail (simp length-drop (omega arith))
