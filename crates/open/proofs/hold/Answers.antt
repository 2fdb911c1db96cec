-- `open::hold` meets its contract: its four words are put one after the other.
-- Assumes nothing.
use native.Mathlib.Omega.{arith}
use lib.ListN.{length-set}
use Rattle.open.proofs.Words.{holds-words}
use Rattle.open.proofs.hold.Goals as goal

pub bounds-list-at-2 : goal.bounds-list-at-2
bounds-list-at-2 c = simp length-set (omega arith)

pub bounds-list-at-3 : goal.bounds-list-at-3
bounds-list-at-3 c = simp length-set (omega arith)

pub bounds-list-at-4 : goal.bounds-list-at-4
bounds-list-at-4 c = simp length-set (omega arith)

pub returns : goal.returns
returns c = holds-words _ _ _ c.width_word.ensures
