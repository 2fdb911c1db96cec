-- `exports::reystavem_batch_write` meets its contract: the answer is told as it came.
-- Assumes nothing.
use Rattle.exports.proofs.Told.{batch-told}
use Rattle.exports.proofs.reystavem_batch_write.Goals as goal

pub returns : goal.returns
returns c = batch-told c.write-got.ensures c.batch_written.ensures
