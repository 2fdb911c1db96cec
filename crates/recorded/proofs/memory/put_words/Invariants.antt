-- `recorded::memory::put_words` meets its contract: the words that are left, put where the loop stands, give the whole.
-- Assumes nothing.
use mathlib.Core.Path.{◌≡◌}
use Prim.Native.Nat.{◌-◌}
use lib.ListN.{length}
use lib.Seq.{sets}
use Rattle.recorded.specs.Fields.{words_of}
use Rattle.recorded.proofs.Puts.{Lays}
use Rattle.recorded.proofs.memory.put_words.Given as goal

abbrev pub invariant-loop-i : goal.invariant-loop-i
invariant-loop-i l = Lays (sets l.initial.store 0 (words_of l.part)) l.store l.rest l.i × (length l.store ≡ length l.initial.store)

abbrev pub decreases-loop-i : goal.decreases-loop-i
decreases-loop-i l = length l.store - l.i
