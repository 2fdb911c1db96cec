-- `exports::reystavem_find` meets its contract: the answer is told as it came.
-- Assumes nothing.
use Rattle.exports.proofs.reystavem_find.Goals as goal

pub returns : goal.returns
returns c = rw c.find-got.ensures at c.found.ensures
