-- `put_field::put_part` meets its contract: a text, or bytes.
-- Assumes nothing.
use mathlib.Core.Path.{refl}
use Rattle.write_item.proofs.Judging.{part-is}
use Rattle.put_field.proofs.Fields.{spelled-text, spelled-bytes}
use Rattle.put_field.proofs.put_part.Goals as goal

pub returns-then-text : goal.returns-then-text
returns-then-text c = let a = c.args in
    rw (c.if-text.true, spelled-text, ← (part-is a.message.now a.first a.second _ refl)) c.put_text.ensures

pub returns : goal.returns
returns c = let a = c.args in
    rw (c.if-text.false, spelled-bytes, ← (part-is a.message.now a.first a.second _ refl)) c.put_hex.ensures
