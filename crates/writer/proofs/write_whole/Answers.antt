-- `writer::write_whole` meets its contract: a short list goes on in its room, and of a longer one nothing is put yet.
-- Assumes nothing.
use mathlib.Core.Path.{refl}
use Rattle.writer.proofs.Promised.{is-kept}
use Rattle.writer.proofs.write_whole.Goals as goal

pub returns-then-len-le-FEW : goal.returns-then-len-le-FEW
returns-then-len-le-FEW c = c.write_kept.ensures

pub write_kept-requires-then-len-le-MANY : goal.write_kept-requires-then-len-le-MANY
write_kept-requires-then-len-le-MANY c = record { table_value = c.requires.table_value; kept = is-kept (c.put_nothing-nothing.ensures.all _ _ _) refl }

pub returns-then-len-le-MANY : goal.returns-then-len-le-MANY
returns-then-len-le-MANY c = c.write_kept-then-len-le-MANY.ensures

pub write_kept-requires-2 : goal.write_kept-requires-2
write_kept-requires-2 c = record { table_value = c.requires.table_value; kept = is-kept (c.put_nothing-nothing.ensures.all _ _ _) refl }

pub returns : goal.returns
returns c = c.write_kept-2.ensures
