-- `utf8::width` meets its contract: the table lent is the table of widths.
-- Assumes nothing.
use borrow.Author.Rules.{rules}
use Rattle.utf8.proofs.width.Goals as goal

pub returns : goal.returns
returns c = c.requires.entry _ (search rules)
