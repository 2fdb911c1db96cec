-- `exports::reystavem_take` meets its contract: the answer is told as it came.
-- Assumes nothing.
use Rattle.exports.proofs.reystavem_take.Goals as goal

pub returns : goal.returns
returns c = rw c.take_at-got.ensures at c.taken.ensures
