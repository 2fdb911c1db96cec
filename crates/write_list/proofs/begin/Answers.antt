-- `write_list::begin` meets its contract, by whether the round has an entry in front and a struct has it.
-- Assumes nothing.
use native.Mathlib.Omega.{arith}
use Rattle.wire.specs.Answers.{room_of}
use Rattle.write_list.proofs.Rounds.{begins-bare, begins-end, begins-first, begins-second, begins-next}
use Rattle.write_list.proofs.begin.Goals as goal

pub returns-then-room-at : goal.returns-then-room-at
unfolding room_of
returns-then-room-at c = rw c.if-headed.true (begins-end _ _ (omega arith))

pub first-first-requires : goal.first-first-requires
unfolding room_of
first-first-requires c = omega arith

pub second-second-requires : goal.second-second-requires
unfolding room_of
second-second-requires c = omega arith

pub returns-then-first-ne0 : goal.returns-then-first-ne0
unfolding room_of
returns-then-first-ne0 c = rw c.if-headed.true (begins-first _ _ (omega arith) c.first-first.ensures c.second-second.ensures (λ e. omega arith))

pub returns-then-second-ne0 : goal.returns-then-second-ne0
unfolding room_of
returns-then-second-ne0 c = rw c.if-headed.true (begins-second _ _ (omega arith) c.first-first.ensures c.second-second.ensures (λ e. omega arith))

pub returns-then-headed : goal.returns-then-headed
unfolding room_of
returns-then-headed c = rw c.if-headed.true (begins-next _ _ (omega arith) c.first-first.ensures c.second-second.ensures (omega arith) (omega arith))

pub returns : goal.returns
returns c = rw c.if-headed.false (begins-bare _ _)
