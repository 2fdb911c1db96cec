-- `exports::reystavem_read` meets its contract: the answer is told as it came.
-- Assumes nothing.
use Rattle.exports.proofs.Told.{read_told}
use Rattle.exports.proofs.reystavem_read.Goals as goal

pub returns : goal.returns
returns c = read_told c.read-got.ensures c.reading.ensures
