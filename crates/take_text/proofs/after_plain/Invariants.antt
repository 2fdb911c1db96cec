-- `take_text::after_plain` meets its contract: the loop's invariant is that all bytes so far are plain.
-- Assumes nothing.
use Rattle.take_text.specs.Marks.{PassesPlain}
use Prim.Native.Nat.{◌+◌}
use Rattle.take_text.proofs.after_plain.Given as goal

abbrev pub invariant-loop-i : goal.invariant-loop-i
invariant-loop-i l = PassesPlain l.one l.more l.row l.at (l.at + l.i)
