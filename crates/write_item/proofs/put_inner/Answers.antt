-- `write_item::put_inner` meets its contract, by the kind.
-- Assumes nothing.
use native.Mathlib.Omega.{arith}
use Rattle.output.proofs.Counting.{puts_none}
use Rattle.write_item.proofs.Spelling.{spells-option, spells-struct, spells-varint}
use Rattle.write_item.proofs.put_inner.Goals as goal

pub returns-in-15 : goal.returns-in-15
returns-in-15 c = spells-option _ c.in-15.is c.put_byte.ensures

pub returns-in-18 : goal.returns-in-18
returns-in-18 c = spells-struct _ c.in-18.is (puts_none _ _ (omega arith))

pub returns-in_default : goal.returns-in_default
returns-in_default c = spells-varint _ (omega arith) (omega arith) (λ e. omega arith) c.put_varint.ensures
