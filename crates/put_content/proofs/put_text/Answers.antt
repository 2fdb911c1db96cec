-- `put_content::put_text` meets its contract: a text that gets no shorter is put as it is; of another the count, and then the text where
-- it has room.
-- Assumes nothing.
use native.Mathlib.Omega.{arith}
use Rattle.put_number.proofs.Laying.{exact}
use Rattle.put_content.proofs.Undoing.{plain-laid, counted-beyond, counted-inside}
use Rattle.put_content.proofs.put_text.Goals as goal

pub returns-then-bytes-len : goal.returns-then-bytes-len
returns-then-bytes-len c = plain-laid _ (omega (arith, c.requires)) c.put_counted.ensures

pub returns-then-out-end : goal.returns-then-out-end
returns-then-out-end c = counted-beyond _ _ c.requires (omega arith) c.put_varint-next.ensures c.add-end.ensures (omega arith)

pub fill_text-requires : goal.fill_text-requires
fill_text-requires c = omega (arith, exact _ _ (omega arith) c.requires c.add-end.ensures c.if-out-end.false)

pub returns : goal.returns
returns c = counted-inside _ _ c.requires (omega arith) c.put_varint-next.ensures c.add-end.ensures c.fill_text.ensures
