-- With every feed, fewer bytes are left, and the places count them.
use Rattle.std.proofs.Common.{◌≡◌, length, ◌+◌, ◌≤◌}
use Rattle.wire.specs.Frames.{room}
use Rattle.shelf.proofs.frames.feed_all.Given as goal

abbrev pub invariant-loop-left : goal.invariant-loop-left
invariant-loop-left g l = (l.state.idx ≤ room) × (l.over ≤ l.place) × (l.place + length l.left ≡ l.initial.place + length l.chunk)

abbrev pub decreases-loop-left : goal.decreases-loop-left
decreases-loop-left g l = length l.left
