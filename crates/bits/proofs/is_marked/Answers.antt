-- `bits::is_marked` meets its contract: the bit is what the definition reads.
-- Assumes nothing.
use Rattle.bits.specs.Marks.{marked}
use borrow.Author.Rules.{rules}
use Rattle.bits.proofs.is_marked.Goals as goal

pub returns : goal.returns
unfolding marked
returns c = search rules
