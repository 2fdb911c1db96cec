-- `exports::reystavem_compare` meets its contract: the answer is told as it came.
-- Assumes nothing.
use Rattle.exports.proofs.Told.{compare-told}
use Rattle.exports.proofs.reystavem_compare.Goals as goal

pub returns : goal.returns
returns c = compare-told c.compare-got.ensures c.compared.ensures
