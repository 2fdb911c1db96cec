-- `messages::same_key` meets its contract.
-- Assumes nothing.
use Rattle.messages.proofs.Keyed.{key-same, key-other}
use Rattle.messages.proofs.same_key.Goals as goal

pub returns-then-a-b : goal.returns-then-a-b
returns-then-a-b c = key-same _ _ c.if-a-b.true

pub returns : goal.returns
returns c = key-other _ _ c.if-a-b.false
