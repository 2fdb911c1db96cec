-- `zigzag::is_signed` meets its contract.
-- Assumes nothing.
use Rattle.zigzag.proofs.Widths.{width-bits, signed_below, signed_above}
use Rattle.zigzag.proofs.is_signed.Goals as goal

pub returns-then-a-half : goal.returns-then-a-half
returns-then-a-half c = signed_below _ (width-bits _) _ (rw c.half_of-half.ensures at c.if-a-half.true)

pub returns : goal.returns
returns c = rw c.half_of-half.ensures (signed_above _ (width-bits _) _ (rw c.half_of-half.ensures at c.if-a-half.false))
