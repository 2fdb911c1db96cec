-- `accumulator::feed_marked` meets its contract: the state is bad, or it waits, or it doesn't.
-- Assumes nothing.
use Rattle.wire.specs.Frames.{room}
use Rattle.accumulator.proofs.Waiting.{marked-bad, marked-waiting, marked-fresh}
use native.Mathlib.Omega.{arith}
use Rattle.accumulator.proofs.feed_marked.Goals as goal

pub returns-then-idx-gt-ROOM : goal.returns-then-idx-gt-ROOM
unfolding room
returns-then-idx-gt-ROOM c = rw (c.no_message-bad.ensures, c.requires.1) (marked-bad c.args.array.now c.args.idx c.args.chunk.now c.args.waiting c.if-idx-gt-ROOM.true)

pub returns-then-waiting : goal.returns-then-waiting
unfolding room
returns-then-waiting c = marked-waiting c.args.array.now c.args.idx c.args.chunk.now (omega arith) c.if-waiting.true c.feed_waiting.ensures

pub feed_fresh-requires : goal.feed_fresh-requires
unfolding room
feed_fresh-requires c = record { long = c.requires.0; good = omega arith; zeros = c.requires.1 }

pub returns : goal.returns
unfolding room
returns c = marked-fresh c.args.array.now c.args.idx c.args.chunk.now (omega arith) c.if-waiting.false c.feed_fresh.ensures
