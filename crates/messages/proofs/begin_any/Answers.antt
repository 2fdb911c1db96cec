-- `messages::begin_any` meets its contract.
-- Assumes nothing.
use native.Mathlib.Omega.{arith}
use Rattle.laws.proofs.Answers.{handed-up}
use Rattle.messages.specs.Steps.{begins, refuses}
use Rattle.messages.proofs.Keyed.{first_stops, first-inside, second-stops, first-falls, second-falls, rest-bound, begun-both}
use Rattle.messages.proofs.begin_any.Goals as goal

pub key_word-requires : goal.key_word-requires
key_word-requires c = record { good_table = c.requires.good; falls = first-falls _ _ _ c.requires; key = c.requires.first; part_bound = omega arith }

pub returns-in_err-one : goal.returns-in_err-one
returns-in_err-one c = rw (handed-up c.from_residual.ensures) (refuses (first_stops _ _ _ _ c.requires c.key_word.ensures c.in_err-one.was))

pub overflow_add-from : goal.overflow_add-from
overflow_add-from c = omega (arith, (second-falls _ _ _ c.requires).inside)

pub overflow_mul-from : goal.overflow_mul-from
overflow_mul-from c = omega (arith, (second-falls _ _ _ c.requires).inside)

pub overflow_add-from-2 : goal.overflow_add-from-2
overflow_add-from-2 c = omega (arith, (second-falls _ _ _ c.requires).inside)

pub slice_bounds-rest-count : goal.slice_bounds-rest-count
slice_bounds-rest-count c = first-inside _ _ _ _ c.requires c.key_word.ensures c.in_ok-one.was

pub slice_bounds-rest-start : goal.slice_bounds-rest-start
slice_bounds-rest-start c = first-inside _ _ _ _ c.requires c.key_word.ensures c.in_ok-one.was

pub key_word-requires-2 : goal.key_word-requires-2
key_word-requires-2 c = record { good_table = c.requires.good; falls = second-falls _ _ _ c.requires; key = c.requires.second; part_bound = rest-bound c.args.part.now (first-inside _ _ _ _ c.requires c.key_word.ensures c.in_ok-one.was) (omega arith) }

pub returns-in_err-other : goal.returns-in_err-other
returns-in_err-other c = rw (handed-up c.from_residual-in_err-other.ensures) (refuses (second-stops _ _ _ _ c.requires c.key_word.ensures c.in_ok-one.was c.key_word-2.ensures c.in_err-other.was))

pub returns : goal.returns
returns c = begins (begun-both _ _ _ _ c.requires c.key_word.ensures c.in_ok-one.was c.key_word-2.ensures c.in_ok-other.was c.key_by.ensures)
