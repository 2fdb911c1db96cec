-- `framer::has_room` meets its contract: room for any frame of such a message is room for this one, and otherwise its length is looked at.
-- Assumes nothing.
use mathlib.Core.Path.{sym}
use native.Mathlib.Omega.{arith}
use borrow.Author.Tests.{le-leb}
use lib.ListN.{length}
use Rattle.wire.specs.Sending.{frame}
use Rattle.framing.proofs.Sizes.{sized}
use Rattle.framer.proofs.has_room.Goals as goal

pub returns-then-most-room : goal.returns-then-most-room
returns-then-most-room c = let m = c.args.message.now in sym (le-leb (length (frame m)) c.args.room (omega (arith, c.if-most-room.true, (sized m).most)))

pub returns : goal.returns
returns c = rw c.size-need.ensures
