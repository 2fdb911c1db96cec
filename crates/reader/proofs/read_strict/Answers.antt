-- `reader::read_strict` meets its contract: the room is the store's.
-- Assumes nothing.
use Rattle.wire.specs.Answers.{room_of, reads_strict}
use Rattle.reader.proofs.Promised.{reads_whole}
use Rattle.reader.proofs.read_strict.Goals as goal

pub returns : goal.returns
unfolding room_of reads_strict
returns c = reads_whole _ _ _ _ (rw c.room-room.ensures at c.read_with.ensures)
