-- `exports::reystavem_write` meets its contract: the answer is told as it came.
-- Assumes nothing.
use Rattle.exports.proofs.Told.{write-told}
use Rattle.exports.proofs.reystavem_write.Goals as goal

pub returns : goal.returns
returns c = write-told c.write-got.ensures c.written.ensures
