-- `exports::reystavem_csv_export` meets its contract: the answer is told as it came.
-- Assumes nothing.
use Rattle.exports.proofs.Told.{row_told}
use Rattle.exports.proofs.reystavem_csv_export.Goals as goal

pub returns : goal.returns
returns c = row_told c.export-got.ensures c.row.ensures
