-- `framer::frame` meets its contract: the frame has room and is put there, or nothing is.
-- Assumes nothing.
use mathlib.Core.Path.{sym, ◌∙◌}
use borrow.Author.Tests.{leb-true, leb-false}
use Rattle.framer.proofs.Promised.{sent, refused}
use Rattle.framer.proofs.frame.Goals as goal

pub put_frame-place-requires : goal.put_frame-place-requires
put_frame-place-requires c = leb-true _ _ (sym c.has_room.ensures ∙ c.if-has_room.true)

pub returns-then-has_room : goal.returns-then-has_room
returns-then-has_room c = sent c.args.message.now (leb-true _ _ (sym c.has_room.ensures ∙ c.if-has_room.true)) c.put_frame-place.ensures

pub returns : goal.returns
returns c = refused c.args.message.now c.args.out.now (leb-false _ _ (sym c.has_room.ensures ∙ c.if-has_room.false))
