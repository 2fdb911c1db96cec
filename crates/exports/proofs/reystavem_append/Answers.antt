-- `exports::reystavem_append` meets its contract: the answer is told as it came.
-- Assumes nothing.
use Rattle.exports.proofs.Told.{ask-told}
use Rattle.exports.proofs.reystavem_append.Goals as goal

pub returns : goal.returns
returns c = ask-told c.appends-got.ensures c.asked.ensures
