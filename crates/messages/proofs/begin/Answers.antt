-- `messages::begin` meets its contract: up to the first key field, up to the second, or no further.
-- Assumes nothing.
use native.Mathlib.Omega.{arith}
use Rattle.messages.specs.Past.{unkeyed}
use Rattle.messages.proofs.Keyed.{second-falls}
use Rattle.messages.proofs.Past.{ints-inside, key-read, both-past, before_falls, between-falls, few-fields}
use Rattle.messages.proofs.begin.Goals as goal

pub past_ints-requires : goal.past_ints-requires
past_ints-requires c = record { good_table = c.requires.good; falls = before_falls _ _ _ c.requires; at_inside = omega arith }

pub returns-in_err-first : goal.returns-in_err-first
returns-in_err-first c = rw c.from_residual.ensures unkeyed

pub past_key-requires : goal.past_key-requires
past_key-requires c = ints-inside c.past_ints.ensures c.in_ok-first.was

pub returns-in_err-one : goal.returns-in_err-one
returns-in_err-one c = rw c.from_residual-in_err-one.ensures unkeyed

pub overflow_add-from : goal.overflow_add-from
overflow_add-from c = omega (arith, (second-falls _ _ _ c.requires).inside)

pub overflow_mul-from : goal.overflow_mul-from
overflow_mul-from c = omega (arith, (second-falls _ _ _ c.requires).inside)

pub overflow_add-from-2 : goal.overflow_add-from-2
overflow_add-from-2 c = omega (arith, (second-falls _ _ _ c.requires).inside)

pub past_ints-requires-2 : goal.past_ints-requires-2
past_ints-requires-2 c = record { good_table = c.requires.good; falls = between-falls _ _ _ c.requires; at_inside = (key-read c.past_key.ensures c.in_ok-one.was).inside }

pub returns-in_err-second : goal.returns-in_err-second
returns-in_err-second c = rw c.from_residual-in_err-second.ensures unkeyed

pub past_key-requires-2 : goal.past_key-requires-2
past_key-requires-2 c = ints-inside c.past_ints-2.ensures c.in_ok-second.was

pub returns-in_err-other : goal.returns-in_err-other
returns-in_err-other c = rw c.from_residual-in_err-other.ensures unkeyed

pub overflow_add-result : goal.overflow_add-result
overflow_add-result c = omega (arith, few-fields _ _ _ c.requires)

pub overflow_add-result-2 : goal.overflow_add-result-2
overflow_add-result-2 c = omega (arith, few-fields _ _ _ c.requires)

pub returns : goal.returns
returns c = both-past _ _ _ _ c.requires c.past_ints.ensures c.in_ok-first.was c.past_key.ensures c.in_ok-one.was c.past_ints-2.ensures c.in_ok-second.was c.past_key-2.ensures c.in_ok-other.was c.key_by.ensures
