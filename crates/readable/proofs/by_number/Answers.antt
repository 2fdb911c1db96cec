-- `readable::by_number` meets its contract.
-- Assumes nothing.
use mathlib.Core.Path.{refl}
use Rattle.desk.specs.Csv.{hex_of}
use Rattle.readable.specs.Spelling.{padded}
use Rattle.readable.proofs.by_number.Goals as goal

pub returns : goal.returns
unfolding padded hex_of
returns c = (rw (c.digit-high.ensures, c.digit-low.ensures), refl)
