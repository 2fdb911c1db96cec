-- `entry::first` meets its contract: the word stands in the list.
-- Assumes nothing.
use native.Mathlib.Nat.{add-zero}
use Rattle.entry.specs.Words.{first_at}
use Rattle.entry.proofs.first.Goals as goal

pub returns : goal.returns
unfolding first_at
returns c = simp add-zero at c.word.ensures
