-- With every turn, fewer places are left for the stream's bytes.
use Rattle.std.proofs.Common.{length, ◌+◌, ◌-◌, ◌^◌, ◌≤◌, ◌<◌}
use Rattle.wire.specs.Frames.{room}
use Rattle.shelf.proofs.frames.show.Given as goal

abbrev pub invariant-loop-got : goal.invariant-loop-got
invariant-loop-got g l = (l.stream.state.idx ≤ room) × (l.stream.over ≤ l.stream.place) × (l.got ≤ length l.chunk) × (l.stream.place + l.got < 2 ^ 64)

abbrev pub decreases-loop-got : goal.decreases-loop-got
decreases-loop-got g l = 2 ^ 64 - l.stream.place
