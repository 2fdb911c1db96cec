-- `open::read_strict` meets its contract: it is the strict reading.
-- Assumes nothing.
use Rattle.wire.specs.Answers.{reads_strict}
use Rattle.open.proofs.read_strict.Goals as goal

pub returns : goal.returns
unfolding reads_strict
returns c = c.read_listed.ensures
