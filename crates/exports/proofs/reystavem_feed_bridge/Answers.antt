-- `exports::reystavem_feed_bridge` meets its contract.
-- Assumes nothing.
use mathlib.Core.Path.{refl, ap, ◌∙◌}
use Rattle.wire.specs.Answers.{feed_number}
use Rattle.exports.proofs.reystavem_feed_bridge.Goals as goal

pub returns : goal.returns
returns c = let f = c.feed_bridge_lent-fed.ensures in
    record { number = c.feed.ensures ∙ ap feed_number f.answer; idx = f.idx; waiting = refl; len = f.len; within = f.within; rest = f.rest; array = f.array; message = f.message }
