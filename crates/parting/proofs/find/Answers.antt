-- `parting::find` meets its contract: an area that is too short is refused before all else.
-- Assumes nothing.
use native.Mathlib.Omega.{arith}
use Rattle.laws.proofs.Areas.{area-bytes}
use Rattle.parting.proofs.Promise.{finds-short}
use Rattle.parting.proofs.find.Goals as goal

pub find_and_clear-requires : goal.find_and_clear-requires
find_and_clear-requires c = (area-bytes, c.if-area-ge-AREA.true)

pub returns : goal.returns
returns c = let shorter = c.if-area-ge-AREA.false in finds-short _ _ _ _ (omega (arith, area-bytes))
