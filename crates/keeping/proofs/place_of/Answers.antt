-- `keeping::place_of` meets its contract.
-- Assumes nothing.
use native.Mathlib.Omega.{arith}
use Rattle.messages.specs.Fields.{second_place}
use Rattle.keeping.proofs.Laying.{place-first, place-second}
use Rattle.keeping.proofs.place_of.Goals as goal

pub returns-then-first : goal.returns-then-first
returns-then-first c = place-first _ c.if-first.true

pub overflow_add-result : goal.overflow_add-result
unfolding second_place
overflow_add-result c = omega (arith, c.requires)

pub overflow_add-result-2 : goal.overflow_add-result-2
unfolding second_place
overflow_add-result-2 c = omega (arith, c.requires)

pub returns : goal.returns
returns c = place-second _ c.if-first.false
