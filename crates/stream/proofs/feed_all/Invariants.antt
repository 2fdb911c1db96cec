-- With every feed, fewer bytes are left.
use Rattle.std.proofs.Common.{length, ◌≤◌}
use Rattle.wire.specs.Frames.{room}
use Rattle.stream.proofs.feed_all.Given as goal

abbrev pub invariant-loop-left : goal.invariant-loop-left
invariant-loop-left g l = l.state.idx ≤ room

abbrev pub decreases-loop-left : goal.decreases-loop-left
decreases-loop-left g l = length l.left
