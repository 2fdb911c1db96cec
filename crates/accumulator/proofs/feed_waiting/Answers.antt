-- `accumulator::feed_waiting` meets its contract: there is no zero, or what follows it is fed.
-- Assumes nothing.
use mathlib.Core.Path.{sym, ◌∙◌}
use Rattle.decoder.proofs.Search.{found_none, found_at}
use Rattle.accumulator.proofs.Waiting.{wait-on, wait-end, behind-inside, used-inside}
use native.Mathlib.Omega.{arith}
use Rattle.accumulator.proofs.feed_waiting.Goals as goal

pub returns-in_default : goal.returns-in_default
returns-in_default c = rw (c.no_message-dropped.ensures, c.requires.zeros) (wait-on c.args.array.now c.args.chunk.now (found_none _ (sym c.in_default.is ∙ c.first_zero-found.ensures)))

pub overflow_add-from : goal.overflow_add-from
overflow_add-from c = omega (arith, behind-inside c.args.array.now c.args.chunk.now (found_at _ (sym c.in-Some.is ∙ c.first_zero-found.ensures)))

pub slice_bounds-feed_fresh-count : goal.slice_bounds-feed_fresh-count
slice_bounds-feed_fresh-count c = behind-inside c.args.array.now c.args.chunk.now (found_at _ (sym c.in-Some.is ∙ c.first_zero-found.ensures))

pub slice_bounds-feed_fresh-start : goal.slice_bounds-feed_fresh-start
slice_bounds-feed_fresh-start c = behind-inside c.args.array.now c.args.chunk.now (found_at _ (sym c.in-Some.is ∙ c.first_zero-found.ensures))

pub overflow_add-used : goal.overflow_add-used
overflow_add-used c = omega (arith, used-inside c.args.array.now c.args.chunk.now (found_at _ (sym c.in-Some.is ∙ c.first_zero-found.ensures)) c.feed_fresh-behind.ensures)

pub returns : goal.returns
returns c = wait-end c.args.array.now c.args.chunk.now (found_at _ (sym c.in-Some.is ∙ c.first_zero-found.ensures)) c.feed_fresh-behind.ensures
