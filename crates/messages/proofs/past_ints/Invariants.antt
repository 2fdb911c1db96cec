-- `messages::past_ints` meets its contract: the loop's invariant is `Along`.
-- Assumes nothing.
use Rattle.messages.proofs.Past.{Along}
use Rattle.messages.proofs.past_ints.Given as goal

abbrev pub invariant-loop-i : goal.invariant-loop-i
invariant-loop-i l = Along l.table l.l l.from l.part l.at l.i l.to
