-- `write_list::put_content` meets its contract: what was judged and put is the leaf.
-- Assumes nothing.
use Rattle.wire.specs.Answers.{room_of}
use native.Mathlib.Omega.{arith}
use Rattle.write_list.proofs.Fronts.{content-put, content-none}
use Rattle.write_list.proofs.put_content.Goals as goal

pub overflow_add-next : goal.overflow_add-next
unfolding room_of
overflow_add-next c = omega (arith, c.requires.at_bound)

pub returns-in_default : goal.returns-in_default
returns-in_default c = content-none c.put_pooled.ensures c.in_default.is

pub returns : goal.returns
returns c = content-put c.put_pooled.ensures c.requires.le_number.0 c.requires.le_number.1 c.requires.at_bound c.first-first.ensures c.second-second.ensures c.in-Some.is
