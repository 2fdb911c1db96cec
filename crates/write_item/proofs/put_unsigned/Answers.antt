-- `write_item::put_unsigned` meets its contract, by the kind.
-- Assumes nothing.
use native.Mathlib.Omega.{arith}
use Rattle.write_item.proofs.Spelling.{spells-u8, spells-unsigned}
use Rattle.write_item.proofs.put_unsigned.Goals as goal

pub returns-in-5 : goal.returns-in-5
returns-in-5 c = spells-u8 _ c.in-5.is c.put_byte.ensures

pub returns-in_default : goal.returns-in_default
returns-in_default c = spells-unsigned _ (omega arith) (omega arith) c.put_varint.ensures
