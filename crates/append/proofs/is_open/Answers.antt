-- `append::is_open` meets its contract: a kind is known by its number.
-- Assumes nothing.
use mathlib.Core.Path.{sym}
use Rattle.laws.proofs.Numbering.{open-number}
use Rattle.append.proofs.is_open.Goals as goal

pub returns : goal.returns
returns c = sym (open-number _ c.requires)
