-- `open::read_listed` meets its contract: a list that is too short is refused before all else.
-- Assumes nothing.
use native.Mathlib.Omega.{arith}
use Rattle.open.proofs.Promised.{list-words, listed-short}
use Rattle.open.proofs.read_listed.Goals as goal

pub read_and_clear-requires : goal.read_and_clear-requires
read_and_clear-requires c = (list-words, c.if-list-ge-WORDS.true)

pub returns : goal.returns
returns c = let shorter = c.if-list-ge-WORDS.false in listed-short _ _ _ (omega (arith, list-words))
