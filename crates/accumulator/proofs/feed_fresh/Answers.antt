-- `accumulator::feed_fresh` meets its contract: a chunk without a zero fits or spills, and one with a zero ends a frame.
-- Assumes nothing.
use mathlib.Core.Path.{sym, ◌∙◌}
use Rattle.wire.specs.Frames.{room}
use Rattle.decoder.proofs.Search.{found_none, found_at}
use Rattle.accumulator.proofs.Waiting.{fresh-over, fresh_on, fresh-end}
use native.Mathlib.Omega.{arith}
use Rattle.accumulator.proofs.feed_fresh.Goals as goal

pub overflow_sub-idx : goal.overflow_sub-idx
unfolding room
overflow_sub-idx c = omega (arith, c.requires.good)

pub returns-then-idx-all : goal.returns-then-idx-all
unfolding room
returns-then-idx-all c = rw (c.no_message-dropped.ensures, c.requires.zeros) (fresh-over c.args.array.now c.args.idx c.args.chunk.now c.requires.good (found_none _ (sym c.in_default.is ∙ c.first_zero-found.ensures)) (omega arith))

pub returns-in_default : goal.returns-in_default
unfolding room
returns-in_default c = rw c.requires.zeros (fresh_on c.args.array.now c.args.idx c.args.chunk.now c.requires.good (found_none _ (sym c.in_default.is ∙ c.first_zero-found.ensures)) (omega arith) c.feed_on-taken.ensures)

pub feed_end-step-requires : goal.feed_end-step-requires
feed_end-step-requires c = record { long = c.requires.long; good = c.requires.good; ends = found_at _ (sym c.in-Some.is ∙ c.first_zero-found.ensures); zeros = c.requires.zeros }

pub returns : goal.returns
returns c = fresh-end c.args.array.now c.args.idx c.args.chunk.now c.requires.good (found_at _ (sym c.in-Some.is ∙ c.first_zero-found.ensures)) c.feed_end-step.ensures
