-- `entry::put` meets its contract: its words stand in the store, or it has none for them.
-- Assumes nothing.
use mathlib.Core.Path.{sym}
use native.Mathlib.Numerals.{add-one, add-two}
use native.Mathlib.Omega.{arith}
use lib.ListN.{length-set}
use Rattle.wire.specs.Answers.{words_of, room_of}
use Rattle.entry.specs.Words.{with_entry}
use Rattle.entry.proofs.Words.{put-there, put-nowhere}
use Rattle.entry.proofs.put.Goals as goal

pub bounds-store-to-then-at-room : goal.bounds-store-to-then-at-room
bounds-store-to-then-at-room c = simp length-set (omega arith)

pub bounds-store-to-then-at-room-2 : goal.bounds-store-to-then-at-room-2
bounds-store-to-then-at-room-2 c = simp length-set (omega arith)

pub returns-then-at-room : goal.returns-then-at-room
unfolding room_of with_entry words_of
returns-then-at-room c = rw (add-one, add-two) (sym (put-there _ _ _ (omega arith)))

pub returns-else-at-room : goal.returns-else-at-room
unfolding room_of with_entry
returns-else-at-room c = sym (put-nowhere _ _ _ (omega arith))
