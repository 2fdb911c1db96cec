-- `recorded::memory::put` meets its contract: what is left of the part, put where the loop stands, gives the whole.
-- Assumes nothing.
use mathlib.Core.Path.{◌≡◌}
use lib.ListN.{length}
use lib.Seq.{sets}
use Rattle.recorded.proofs.Puts.{Puts}
use Rattle.recorded.proofs.memory.put.Given as goal

abbrev pub invariant-loop-byte : goal.invariant-loop-byte
invariant-loop-byte l = Puts (sets l.initial.memory l.place l.part) l.memory l.part l.at l.byte-index × (length l.memory ≡ length l.initial.memory)
