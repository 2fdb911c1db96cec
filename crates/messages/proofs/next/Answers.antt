-- `messages::next` meets its contract: both key fields and then the others, on the quick way or on the long one.
-- Assumes nothing.
use mathlib.Core.Path.{◌∙◌}
use native.Mathlib.Omega.{arith}
use Rattle.laws.proofs.Answers.{handed-up}
use Rattle.messages.proofs.Keyed.{begun-or, stops-or}
use Rattle.messages.proofs.Past.{all_past, keys-inside, keys-begin, behind-falls, few-fields}
use Rattle.messages.proofs.next.Goals as goal

pub overflow_add-made : goal.overflow_add-made
overflow_add-made c = omega (arith, few-fields _ _ _ c.requires)

pub overflow_add-made-2 : goal.overflow_add-made-2
overflow_add-made-2 c = omega (arith, few-fields _ _ _ c.requires)

pub overflow_add-made-3 : goal.overflow_add-made-3
overflow_add-made-3 c = omega (arith, few-fields _ _ _ c.requires)

pub overflow_add-from : goal.overflow_add-from
overflow_add-from c = omega (arith, few-fields _ _ _ c.requires)

pub overflow_add-from-in-Some : goal.overflow_add-from-in-Some
overflow_add-from-in-Some c = omega (arith, few-fields _ _ _ c.requires)

pub overflow_mul-from : goal.overflow_mul-from
overflow_mul-from c = omega (arith, few-fields _ _ _ c.requires)

pub overflow_add-from-in-Some-2 : goal.overflow_add-from-in-Some-2
overflow_add-from-in-Some-2 c = omega (arith, few-fields _ _ _ c.requires)

pub past_ints-requires : goal.past_ints-requires
past_ints-requires c = record { good_table = c.requires.good; falls = behind-falls _ _ _ c.requires; at_inside = keys-inside _ _ _ _ c.requires c.begin.ensures c.in-Some.is }

pub returns-in-Some-past_ints : goal.returns-in-Some-past_ints
returns-in-Some-past_ints c = all_past _ _ _ _ c.requires c.begin.ensures c.in-Some.is (omega (arith, c.if-made-le-ROOM.true)) c.past_ints.ensures c.in-Some-past_ints.is

pub finish-requires : goal.finish-requires
finish-requires c = record { keyed_by = c.requires; begins = keys-begin _ _ _ _ c.requires c.begin.ensures c.in-Some.is (omega (arith, c.if-made-le-ROOM.true)) }

pub returns-in-Some : goal.returns-in-Some
returns-in-Some c = c.finish.ensures

pub returns-in_err-begun : goal.returns-in_err-begun
returns-in_err-begun c = handed-up c.from_residual.ensures ∙ stops-or _ _ _ _ c.requires c.begin_any.ensures c.in_err-begun.was

pub finish-requires-2 : goal.finish-requires-2
finish-requires-2 c = record { keyed_by = c.requires; begins = begun-or _ _ _ _ c.requires c.begin_any.ensures c.in_ok-begun.was }

pub returns : goal.returns
returns c = c.finish-2.ensures
