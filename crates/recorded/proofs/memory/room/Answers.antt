-- `recorded::memory::room` meets its contract, by a lemma: to compute the length would take long.
-- Assumes nothing.
use mathlib.Core.Path.{sym}
use Prim.Native.Nat.{ℕ}
use lib.ListN.{length-replicate}
use Rattle.recorded.proofs.memory.room.Goals as goal

pub returns : goal.returns
returns c = sym (length-replicate {A = ℕ} 131072 0)
