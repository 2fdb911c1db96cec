-- `put_content::number` meets its contract: a digit, or a letter.
-- Assumes nothing.
use native.Mathlib.Omega.{arith}
use Rattle.put_content.proofs.Undoing.{hex-low, hex-high, number-low, number-high}
use Rattle.put_content.proofs.number.Goals as goal

pub overflow_sub-result : goal.overflow_sub-result
overflow_sub-result c = omega (arith, (hex-low c.requires (omega arith)).0)

pub returns-then-b-lt97 : goal.returns-then-b-lt97
returns-then-b-lt97 c = (number-low c.args.b (omega arith), omega (arith, (hex-low c.requires (omega arith)).1))

pub returns : goal.returns
returns c = (number-high c.args.b (omega arith), omega (arith, hex-high c.requires (omega arith)))
