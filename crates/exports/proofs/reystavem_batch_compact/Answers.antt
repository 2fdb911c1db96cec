-- `exports::reystavem_batch_compact` meets its contract: the answer is told as it came.
-- Assumes nothing.
use Rattle.exports.proofs.Told.{batch-told}
use Rattle.exports.proofs.reystavem_batch_compact.Goals as goal

pub returns : goal.returns
returns c = batch-told c.compact-got.ensures c.batch_written.ensures
