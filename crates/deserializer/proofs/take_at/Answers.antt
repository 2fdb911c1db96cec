-- `deserializer::take_at` meets its contract: each test is the definition's, and a leaf's item at the place is the answer.
-- Assumes nothing.
use mathlib.Core.Path.{◌≡◌, sym, ◌∙◌}
use mathlib.Core.Bool.{true}
use native.Mathlib.Omega.{arith}
use Rattle.wire.specs.Answers.{may_take, taken}
use Rattle.deserializer.proofs.Taking.{leaf, not_taken, beyond, inside, word}
use Rattle.deserializer.proofs.take_at.Goals as goal

pub returns-then-not-may_take : goal.returns-then-not-may_take
returns-then-not-may_take c = not_taken _ _ _ (sym c.may_take.ensures ∙ c.if-not-may_take.true)

pub returns-then-message-place : goal.returns-then-message-place
returns-then-message-place c = beyond _ _ _ (let may : may_take c.args.kind ≡ true = sym c.may_take.ensures ∙ c.if-not-may_take.false in may) c.if-message-place.true

pub overflow_cast-kind : goal.overflow_cast-kind
overflow_cast-kind c = omega (arith, (leaf _ (let may : may_take c.args.kind ≡ true = sym c.may_take.ensures ∙ c.if-not-may_take.false in may)).0)

pub overflow_add-behind : goal.overflow_add-behind
overflow_add-behind c = record { fits = word _ _ c.args.message.now (let may : may_take c.args.kind ≡ true = sym c.may_take.ensures ∙ c.if-not-may_take.false in may) (omega arith) (omega arith) c.take-got.ensures c.in-Ok.is }

pub returns-in-Ok : goal.returns-in-Ok
unfolding taken
returns-in-Ok c = inside _ _ _ (let may : may_take c.args.kind ≡ true = sym c.may_take.ensures ∙ c.if-not-may_take.false in may) (omega arith) (omega arith) c.take-got.ensures c.in-Ok.is

pub returns-in-Err : goal.returns-in-Err
unfolding taken
returns-in-Err c = inside _ _ _ (let may : may_take c.args.kind ≡ true = sym c.may_take.ensures ∙ c.if-not-may_take.false in may) (omega arith) (omega arith) c.take-got.ensures c.in-Err.is
