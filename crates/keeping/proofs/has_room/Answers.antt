-- `keeping::has_room` meets its contract.
-- Assumes nothing.
use Rattle.keeping.proofs.Room.{room-none, room-rows, room-all}
use Rattle.keeping.proofs.has_room.Goals as goal

pub returns-then-room-lt-TRAILER : goal.returns-then-room-lt-TRAILER
returns-then-room-lt-TRAILER c = room-none _ _ _ c.if-room-lt-TRAILER.true

pub returns-then-left-many : goal.returns-then-left-many
returns-then-left-many c = room-rows _ _ _ c.if-left-many.true

pub returns : goal.returns
returns c = room-all _ _ _ c.if-room-lt-TRAILER.false c.if-left-many.false
