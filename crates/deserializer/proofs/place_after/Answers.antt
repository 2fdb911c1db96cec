-- `deserializer::place_after` meets its contract: each arm is the definition's clause.
-- Assumes nothing.
use Rattle.wire.specs.Answers.{place_after}
use Rattle.deserializer.proofs.place_after.Goals as goal

pub returns-in-Ok : goal.returns-in-Ok
unfolding place_after
returns-in-Ok c = rw c.in-Ok.is

pub returns-in-Err : goal.returns-in-Err
unfolding place_after
returns-in-Err c = rw c.in-Err.is
