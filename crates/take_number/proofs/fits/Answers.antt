-- `take_number::fits` meets its contract, by the tenth of the most.
-- Assumes nothing.
use native.Mathlib.Omega.{arith}
use Rattle.take_number.proofs.Figures.{fits-less, fits_more, fits-same}
use Rattle.take_number.proofs.fits.Goals as goal

pub returns-then-x-tenth : goal.returns-then-x-tenth
returns-then-x-tenth c = fits-less _ _ _ c.requires c.if-x-tenth.true

pub returns-then-tenth-x : goal.returns-then-tenth-x
returns-then-tenth-x c = fits_more _ _ _ c.if-tenth-x.true

pub returns : goal.returns
returns c = fits-same c.args.most c.args.x c.args.d (omega arith) (omega arith)
