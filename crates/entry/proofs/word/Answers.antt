-- `entry::word` meets its contract: the word stands in the list.
-- Assumes nothing.
use native.Mathlib.Omega.{arith}
use Rattle.wire.specs.Answers.{room_of}
use Rattle.entry.proofs.word.Goals as goal

pub overflow_mul-result : goal.overflow_mul-result
unfolding room_of
overflow_mul-result g c = omega arith

pub overflow_add-result : goal.overflow_add-result
unfolding room_of
overflow_add-result g c = omega arith

pub offset_bounds-words-at : goal.offset_bounds-words-at
unfolding room_of
offset_bounds-words-at g c = omega arith

pub bounds-words-at : goal.bounds-words-at
unfolding room_of
bounds-words-at g c = omega arith
