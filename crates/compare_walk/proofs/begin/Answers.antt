-- `compare_walk::begin` meets its contract: by whether the round has an entry and both sides have room for it.
-- Assumes nothing.
use Rattle.compare_walk.specs.Steps.{bare, put, full}
use Rattle.compare_walk.proofs.Rounds.{one-over}
use Rattle.compare_walk.proofs.begin.Goals as goal

pub returns-then-not-headed : goal.returns-then-not-headed
returns-then-not-headed c = rw c.if-not-headed.true bare

pub returns-then-ones-ge-ROOM : goal.returns-then-ones-ge-ROOM
returns-then-ones-ge-ROOM c = rw c.if-not-headed.false (full (λ a b. one-over a b c.then-ones-ge-ROOM.either))

pub returns : goal.returns
returns c = rw c.if-not-headed.false (put c.if-ones-ge-ROOM.false c.if-others-ge-ROOM.false)
