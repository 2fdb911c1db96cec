-- Each chunk ends behind where it starts, and the state has room for what it keeps.
use Rattle.std.proofs.Common.{◌≤◌, ◌-◌}
use Rattle.wire.specs.Frames.{room}
use Rattle.stream.proofs.main.Given as goal

abbrev pub invariant-loop-at : goal.invariant-loop-at
invariant-loop-at l = (l.state.idx ≤ room) × (l.at ≤ l.end)

abbrev pub decreases-loop-at : goal.decreases-loop-at
decreases-loop-at l = l.end - l.at
