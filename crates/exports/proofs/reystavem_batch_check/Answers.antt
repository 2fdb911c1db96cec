-- `exports::reystavem_batch_check` meets its contract: the answer is told as it came.
-- Assumes nothing.
use Rattle.exports.proofs.reystavem_batch_check.Goals as goal

pub returns : goal.returns
returns c = rw c.check-got.ensures at c.batch_checked.ensures
