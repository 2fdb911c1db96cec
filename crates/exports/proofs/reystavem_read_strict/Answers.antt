-- `exports::reystavem_read_strict` meets its contract: the answer is told as it came.
-- Assumes nothing.
use Rattle.exports.proofs.Told.{read_told}
use Rattle.exports.proofs.reystavem_read_strict.Goals as goal

pub returns : goal.returns
returns c = read_told c.read_strict-got.ensures c.reading.ensures
