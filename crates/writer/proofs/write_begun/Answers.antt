-- `writer::write_begun` meets its contract, by the number of words.
-- Assumes nothing.
use mathlib.Core.Path.{sym, ◌∙◌}
use Rattle.wire.specs.Answers.{room_of}
use Rattle.writer.proofs.Promised.{writes-cut, writes-whole}
use Rattle.writer.proofs.write_begun.Goals as goal

pub returns-then-whole : goal.returns-then-whole
returns-then-whole c = writes-whole _ _ _ _ c.requires.table_value (sym c.whole.ensures ∙ c.if-whole.true) c.write_whole.ensures

pub returns : goal.returns
unfolding room_of
returns c = rw c.room.ensures (writes-cut _ _ _ _ c.requires.table_value (sym c.whole.ensures ∙ c.if-whole.false))
