-- `accumulator::feed_table` meets its contract: the state is bad, or the chunk has no zero, or it ends a frame.
-- Assumes nothing.
use mathlib.Core.Path.{sym, ◌∙◌}
use Rattle.wire.specs.Frames.{room}
use Rattle.decoder.proofs.Search.{found_none, found_at}
use Rattle.accumulator.proofs.Feeding.{bad-state, no_zero, some-zero}
use native.Mathlib.Omega.{arith}
use Rattle.accumulator.proofs.feed_table.Goals as goal

pub returns-then-idx-gt-ROOM : goal.returns-then-idx-gt-ROOM
unfolding room
returns-then-idx-gt-ROOM c = rw (c.no_message.ensures, c.requires.1) (bad-state c.args.array.now c.args.idx c.args.chunk.now c.if-idx-gt-ROOM.true)

pub feed_on-requires : goal.feed_on-requires
unfolding room
feed_on-requires c = (omega arith, c.requires.0)

pub returns-in_default : goal.returns-in_default
unfolding room
returns-in_default c = rw c.requires.1 (no_zero c.args.array.now c.args.idx c.args.chunk.now (omega arith) (found_none _ (sym c.in_default.is ∙ c.first_zero-found.ensures)) c.feed_on.ensures)

pub feed_end-requires : goal.feed_end-requires
unfolding room
feed_end-requires c = record { long = c.requires.0; good = omega arith; ends = found_at _ (sym c.in-Some.is ∙ c.first_zero-found.ensures); zeros = c.requires.1 }

pub returns : goal.returns
unfolding room
returns c = some-zero c.args.array.now c.args.idx c.args.chunk.now (omega arith) (found_at _ (sym c.in-Some.is ∙ c.first_zero-found.ensures)) c.feed_end.ensures
