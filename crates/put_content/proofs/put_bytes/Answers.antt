-- `put_content::put_bytes` meets its contract: the count, and then the bytes where they have room.
-- Assumes nothing.
use native.Mathlib.Omega.{arith}
use Rattle.put_number.proofs.Laying.{exact}
use Rattle.put_content.proofs.Undoing.{counted-beyond, counted-inside}
use Rattle.put_content.proofs.put_bytes.Goals as goal

pub returns-then-out-end : goal.returns-then-out-end
returns-then-out-end c = counted-beyond _ _ c.requires.len_value (omega arith) c.put_varint-next.ensures c.add-end.ensures (omega arith)

pub fill_bytes-requires : goal.fill_bytes-requires
fill_bytes-requires c = record { bytes_in_bounds = omega (arith, exact _ _ (omega arith) c.requires.len_value c.add-end.ensures c.if-out-end.false); are_hex = c.requires.are_hex }

pub returns : goal.returns
returns c = counted-inside _ _ c.requires.len_value (omega arith) c.put_varint-next.ensures c.add-end.ensures c.fill_bytes.ensures
