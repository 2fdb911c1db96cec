-- `accumulator::feed_bridge_lent` meets its contract: a length is wrong, or the message is cleared and the chunk fed.
-- Assumes nothing.
use lib.ListN.{length}
use Rattle.wire.specs.Frames.{room}
use Rattle.decoder.proofs.Decoding.{cleared}
use Rattle.accumulator.proofs.Feeding.{bridge-array, bridge-message, bridge-is}
use native.Mathlib.Omega.{arith}
use Rattle.accumulator.proofs.feed_bridge_lent.Goals as goal

pub returns-then-array-ne-ROOM : goal.returns-then-array-ne-ROOM
unfolding room
returns-then-array-ne-ROOM c = let a = c.args in
    rw c.no_message.ensures (bridge-array a.array.now a.message.now a.idx a.chunk.now (λ e. omega arith))

pub returns-then-message-ne-ROOM : goal.returns-then-message-ne-ROOM
unfolding room
returns-then-message-ne-ROOM c = let a = c.args in
    rw c.no_message-then-message-ne-ROOM.ensures (bridge-message a.array.now a.message.now a.idx a.chunk.now (omega arith) (λ e. omega arith))

pub feed_table-requires : goal.feed_table-requires
unfolding room
feed_table-requires c = (omega arith, cleared (length c.args.message.now) c.clear.ensures (omega arith))

pub returns : goal.returns
unfolding room
returns c = let a = c.args in
    rw (bridge-is a.array.now a.message.now a.idx a.chunk.now (omega arith) (omega arith)) c.feed_table.ensures
