-- `readable::hex` meets its contract.
-- Assumes nothing.
use Rattle.desk.specs.Csv.{hex_of}
use Rattle.readable.proofs.hex.Goals as goal

pub returns : goal.returns
unfolding hex_of
returns c = rw (c.digit-high.ensures, c.digit-low.ensures)
