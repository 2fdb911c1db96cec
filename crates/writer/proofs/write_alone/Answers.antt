-- `writer::write_alone` meets its contract: what was measured is a misfit, is longer than the output, or is put.
-- Assumes nothing.
use native.Mathlib.Omega.{arith}
use Rattle.wire.specs.Answers.{room_of}
use Rattle.write_list.proofs.Going.{few_bytes}
use Rattle.writer.proofs.Alone.{inside, alone-misfit, alone-full, alone-put}
use Rattle.writer.proofs.write_alone.Goals as goal

pub first-first-requires : goal.first-first-requires
unfolding room_of
first-first-requires c = omega (arith, c.requires.words_len)

pub second-second-requires : goal.second-second-requires
unfolding room_of
second-second-requires c = omega (arith, c.requires.words_len)

pub returns-then-out-n : goal.returns-then-out-n
returns-then-out-n c = alone-full _ c.requires.le_number.0 c.requires.le_number.1 c.requires.words_len c.first-first.ensures c.second-second.ensures c.measure_pooled.ensures _ (few_bytes _ c.well_formed.1.1.1.0.1) c.in-Some.is (omega arith)

pub put_part-requires : goal.put_part-requires
put_part-requires c = inside c.requires.le_number.0 c.requires.le_number.1 c.measure_pooled.ensures c.in-Some.is

pub returns-in_default : goal.returns-in_default
returns-in_default c = alone-misfit _ c.requires.le_number.0 c.requires.le_number.1 c.requires.words_len c.first-first.ensures c.second-second.ensures c.measure_pooled.ensures _ (few_bytes _ c.well_formed.1.1.1.0.1) c.in_default.is

pub returns : goal.returns
returns c = alone-put _ c.requires.le_number.0 c.requires.le_number.1 c.requires.words_len c.first-first.ensures c.second-second.ensures c.measure_pooled.ensures _ (few_bytes _ c.well_formed.1.1.1.0.1) c.in-Some.is (omega arith) c.put_part.ensures
