-- `exports::reystavem_read_open_strict` meets its contract: the answer is told as it came.
-- Assumes nothing.
use Rattle.exports.proofs.Told.{open_told}
use Rattle.exports.proofs.reystavem_read_open_strict.Goals as goal

pub returns : goal.returns
returns c = open_told c.read_strict-got.ensures c.opened.ensures
