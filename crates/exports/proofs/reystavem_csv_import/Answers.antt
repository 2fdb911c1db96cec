-- `exports::reystavem_csv_import` meets its contract: the answer is told as it came.
-- Assumes nothing.
use Rattle.exports.proofs.Told.{import-told}
use Rattle.exports.proofs.reystavem_csv_import.Goals as goal

pub returns : goal.returns
returns c = import-told c.import-got.ensures c.row.ensures
