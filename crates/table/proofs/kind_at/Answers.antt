-- `table::kind_at` meets its contract: a good node's record stands in the table.
-- Assumes nothing.
use borrow.Author.Rules.{rules}
use Rattle.wire.specs.Table.{record_of, node_at}
use Rattle.table.proofs.kind_at.Goals as goal

pub returns : goal.returns
unfolding node_at record_of
returns c = search rules
