-- `accumulator::feed_on` meets its contract: the chunk is too long for the room that is left, or it is put there.
-- Assumes nothing.
use Rattle.wire.specs.Frames.{room}
use Rattle.accumulator.proofs.Feeding.{on-over, on_fits}
use native.Mathlib.Omega.{arith}
use Rattle.accumulator.proofs.feed_on.Goals as goal

pub overflow_sub-free : goal.overflow_sub-free
unfolding room
overflow_sub-free c = omega arith

pub returns-then-free-all : goal.returns-then-free-all
unfolding room
returns-then-free-all c = rw c.no_message.ensures (on-over c.args.array.now c.args.idx c.args.chunk.now c.requires.0 c.if-free-all.true)

pub put-requires : goal.put-requires
unfolding room
put-requires c = (omega arith, c.requires.1)

pub returns : goal.returns
unfolding room
returns c = rw (c.no_message-2.ensures, c.put.ensures) (on_fits c.args.array.now c.args.idx c.args.chunk.now c.requires.0 (omega arith))
