-- `write_item::put_ready` meets its contract, by the kind.
-- Assumes nothing.
use native.Mathlib.Omega.{arith}
use Rattle.write_item.proofs.Spelling.{spells-low-byte, spells-signed, spells-u8, spells-unsigned}
use Rattle.write_item.proofs.put_ready.Goals as goal

pub returns-in-5 : goal.returns-in-5
returns-in-5 c = spells-u8 _ c.in-5.is c.put_byte.ensures

pub returns-in-0 : goal.returns-in-0
returns-in-0 c = spells-low-byte _ (omega arith) c.put_byte-in-0.ensures

pub returns-in-2-to-4 : goal.returns-in-2-to-4
returns-in-2-to-4 c = spells-signed _ (omega arith) (omega arith) (rw c.zigzag.ensures at c.put_inside.ensures)

pub returns-in_default : goal.returns-in_default
returns-in_default c = spells-unsigned _ (omega arith) (omega arith) c.put_inside-in_default.ensures
