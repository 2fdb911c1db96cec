-- `compare_item::put` meets its contract: its words stand in the list, or it has none for them.
-- Assumes nothing.
use native.Mathlib.Numerals.{add-one}
use native.Mathlib.Omega.{arith}
use lib.ListN.{length-set}
use Rattle.compare_item.proofs.Pairs.{put-there, put-nowhere}
use Rattle.compare_item.proofs.put.Goals as goal

pub bounds-list-to-then-at-room : goal.bounds-list-to-then-at-room
bounds-list-to-then-at-room c = simp length-set (omega arith)

pub returns-then-at-room : goal.returns-then-at-room
returns-then-at-room c = rw add-one (put-there _ _ _ _ (omega arith))

pub returns-else-at-room : goal.returns-else-at-room
returns-else-at-room c = put-nowhere _ _ _ _ (omega arith)
