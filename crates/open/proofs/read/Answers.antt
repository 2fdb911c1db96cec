-- `open::read` meets its contract: it is the plain reading.
-- Assumes nothing.
use Rattle.wire.specs.Answers.{reads}
use Rattle.open.proofs.read.Goals as goal

pub returns : goal.returns
unfolding reads
returns c = c.read_listed.ensures
