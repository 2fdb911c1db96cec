-- `accumulator::feed_lent` meets its contract: a length is wrong, or the message is cleared and the chunk fed.
-- Assumes nothing.
use lib.ListN.{length}
use Rattle.wire.specs.Frames.{room}
use Rattle.decoder.proofs.Decoding.{cleared}
use Rattle.accumulator.proofs.Feeding.{lent-array, lent-message, lent_is}
use native.Mathlib.Omega.{arith}
use Rattle.accumulator.proofs.feed_lent.Goals as goal

pub returns-then-array-ne-ROOM : goal.returns-then-array-ne-ROOM
unfolding room
returns-then-array-ne-ROOM c = let a = c.args in
    rw c.no_message-bad.ensures (lent-array a.array.now a.message.now a.idx a.chunk.now a.waiting (λ e. omega arith))

pub returns-then-message-ne-ROOM : goal.returns-then-message-ne-ROOM
unfolding room
returns-then-message-ne-ROOM c = let a = c.args in
    rw c.no_message-bad-then-message-ne-ROOM.ensures (lent-message a.array.now a.message.now a.idx a.chunk.now a.waiting (omega arith) (λ e. omega arith))

pub feed_marked-requires : goal.feed_marked-requires
unfolding room
feed_marked-requires c = (omega arith, cleared (length c.args.message.now) c.clear.ensures (omega arith))

pub returns : goal.returns
unfolding room
returns c = let a = c.args in
    rw (lent_is a.array.now a.message.now a.idx a.chunk.now a.waiting (omega arith) (omega arith)) c.feed_marked.ensures
