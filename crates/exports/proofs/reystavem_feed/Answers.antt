-- `exports::reystavem_feed` meets its contract.
-- Assumes nothing.
use mathlib.Core.Path.{ap, ◌∙◌}
use Rattle.wire.specs.Answers.{feed_number}
use Rattle.exports.proofs.reystavem_feed.Goals as goal

pub returns : goal.returns
returns c = let f = rw c.is_waiting-waits.ensures at c.feed_lent-got.ensures in
    let s = f.step in
    record { number = c.feed.ensures ∙ ap feed_number s.answer; idx = s.idx; waiting = c.mark_after.ensures ∙ rw (s.answer, f.waiting); len = s.len; within = s.within; rest = s.rest; array = s.array; message = s.message }
