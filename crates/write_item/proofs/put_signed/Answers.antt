-- `write_item::put_signed` meets its contract, by the kind.
-- Assumes nothing.
use native.Mathlib.Omega.{arith}
use Rattle.write_item.proofs.Spelling.{spells-low-byte, spells-signed}
use Rattle.write_item.proofs.put_signed.Goals as goal

pub returns-in-0 : goal.returns-in-0
returns-in-0 c = spells-low-byte _ (omega arith) c.put_byte.ensures

pub returns-in_default : goal.returns-in_default
returns-in_default c = spells-signed _ (omega arith) (omega arith) (rw c.zigzag.ensures at c.put_varint.ensures)
