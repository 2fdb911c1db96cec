-- `decoder::zeros` meets its contract: the empty message's zeros are the whole room.
-- Assumes nothing.
use Rattle.wire.specs.Frames.{padded, room}
use borrow.Author.Rules.{rules}
use Rattle.decoder.proofs.zeros.Goals as goal

pub returns : goal.returns
unfolding padded room
returns c = search rules
