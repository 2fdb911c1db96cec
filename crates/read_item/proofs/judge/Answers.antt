-- `read_item::judge` meets its contract: a refusal is handed up, and the form is tested.
-- Assumes nothing.
use Rattle.wire.specs.Tests.{both}
use Rattle.read_item.proofs.Heads.{judged-refused, judged-longer, judged-taken}
use Rattle.read_item.proofs.judge.Goals.{else-strict-via-then-strict+else-longer, else-strict-via-else-strict}
use Rattle.read_item.proofs.judge.Goals as goal

pub returns-in_default : goal.returns-in_default
returns-in_default c = judged-refused _ _ c.in_default.is

pub returns-then-longer : goal.returns-then-longer
unfolding both
returns-then-longer c = judged-longer _ _ c.in-Ok.is (rw (c.if-strict.true, c.if-longer.true))

pub returns : goal.returns
unfolding both
returns c = judged-taken _ _ c.in-Ok.is (elim c.else-strict.branch [
  | else-strict-via-then-strict+else-longer w ↦ rw (w.if-strict.true, w.if-longer.false)
  | else-strict-via-else-strict w ↦ rw w.if-strict.false
])
