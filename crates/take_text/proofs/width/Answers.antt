-- `take_text::width` meets its contract, range by range.
-- Assumes nothing.
use native.Mathlib.Omega.{arith}
use Rattle.take_text.proofs.Marking.{width-1, width-0, width-2, width-3, width-4, width-none}
use Rattle.take_text.proofs.width.Goals as goal

pub returns-in-0-to-127 : goal.returns-in-0-to-127
returns-in-0-to-127 c = width-1 c.args.b (omega arith)

pub returns-in-194-to-223 : goal.returns-in-194-to-223
returns-in-194-to-223 c = width-2 c.args.b (omega arith) (omega arith)

pub returns-in-224-to-239 : goal.returns-in-224-to-239
returns-in-224-to-239 c = width-3 c.args.b (omega arith) (omega arith)

pub returns-in-240-to-244 : goal.returns-in-240-to-244
returns-in-240-to-244 c = width-4 c.args.b (omega arith) (omega arith)

pub returns-in_default : goal.returns-in_default
returns-in_default c = width-0 c.args.b (omega arith) (omega arith)

pub returns-in_default-2 : goal.returns-in_default-2
returns-in_default-2 c = width-none c.args.b (omega arith)
