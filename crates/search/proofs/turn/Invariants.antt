-- `search::turn` meets its contract. The loop's invariant: the row in front of `low` is not after the key, and the row at `high` is.
-- Assumes nothing.
use Prim.Native.Nat.{◌-◌}
use Rattle.search.proofs.Turning.{Turning}
use Rattle.search.proofs.turn.Given as goal

abbrev pub invariant-loop-low : goal.invariant-loop-low
invariant-loop-low l = Turning l.rows l.key l.low l.high

abbrev pub decreases-loop-low : goal.decreases-loop-low
decreases-loop-low l = l.high - l.low
