-- `take_field::smallest` meets its contract, range by range.
-- Assumes nothing.
use native.Mathlib.Omega.{arith}
use Rattle.put_field.proofs.Fields.{low-number, high-number}
use Rattle.take_field.proofs.Numbers.{signed_low, signed-little, signed-big, unsigned-0, unsigned-low, unsigned-little, unsigned-big}
use Rattle.take_field.proofs.smallest.Goals as goal

pub overflow_add-result : goal.overflow_add-result
overflow_add-result c = omega (arith, (signed_low c.args.number (omega arith) (omega arith) c.args.above c.requires.largest).1)

pub overflow_add-result-in-20-to-22 : goal.overflow_add-result-in-20-to-22
overflow_add-result-in-20-to-22 c = omega (arith, (signed-little c.args.number (omega arith) (omega arith) c.args.above c.requires.largest).1)

pub overflow_add-result-in-26-to-28 : goal.overflow_add-result-in-26-to-28
overflow_add-result-in-26-to-28 c = omega (arith, (signed-big c.args.number (omega arith) (omega arith) c.args.above c.requires.largest).1)

pub returns-in-1-to-4 : goal.returns-in-1-to-4
returns-in-1-to-4 c = (signed_low c.args.number (omega arith) (omega arith) c.args.above c.requires.largest).0

pub returns-in-20-to-22 : goal.returns-in-20-to-22
returns-in-20-to-22 c = (signed-little c.args.number (omega arith) (omega arith) c.args.above c.requires.largest).0

pub returns-in-26-to-28 : goal.returns-in-26-to-28
returns-in-26-to-28 c = (signed-big c.args.number (omega arith) (omega arith) c.args.above c.requires.largest).0

pub returns-in_default : goal.returns-in_default
returns-in_default c = unsigned-0 c.args.number (omega arith) c.args.above c.requires.largest

pub returns-in_default-2 : goal.returns-in_default-2
returns-in_default-2 c = unsigned-low c.args.number (omega arith) (low-number c.requires.number (omega arith)) c.args.above c.requires.largest

pub returns-in_default-3 : goal.returns-in_default-3
returns-in_default-3 c = unsigned-little c.args.number (omega arith) (omega arith) c.args.above c.requires.largest

pub returns-in_default-4 : goal.returns-in_default-4
returns-in_default-4 c = unsigned-big c.args.number (omega arith) (high-number c.requires.number (omega arith)).1 c.args.above c.requires.largest
