-- `messages::key_by` meets its contract.
-- Assumes nothing.
use Rattle.messages.proofs.Steps.{key-ahead, key-behind}
use Rattle.messages.proofs.key_by.Goals as goal

pub returns-then-ahead : goal.returns-then-ahead
returns-then-ahead c = key-ahead c.if-ahead.true

pub returns : goal.returns
returns c = key-behind c.if-ahead.false
