-- `reader::begin` meets its contract: by whether the round has an entry and room for it.
-- Assumes nothing.
use Rattle.reader.specs.Steps.{bare, put, full}
use Rattle.reader.proofs.begin.Goals as goal

pub returns-then-made-room : goal.returns-then-made-room
returns-then-made-room c = rw (c.if-headed.true, c.put.ensures) (put c.if-made-room.true)

pub returns-then-headed : goal.returns-then-headed
returns-then-headed c = rw c.if-headed.true (full c.if-made-room.false)

pub returns : goal.returns
returns c = rw c.if-headed.false bare
