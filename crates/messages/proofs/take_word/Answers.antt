-- `messages::take_word` meets its contract.
-- Assumes nothing.
use Rattle.messages.proofs.Steps.{narrow-word, wide_word}
use Rattle.messages.proofs.take_word.Goals as goal

pub returns-then-narrow : goal.returns-then-narrow
returns-then-narrow c = narrow-word _ c.if-narrow.true c.take_u32.ensures

pub returns : goal.returns
returns c = wide_word _ c.if-narrow.false c.take.ensures
