-- `utf8::is_text` meets its contract: behind single bytes the rest decides, and at the end nothing is left of it.
-- Assumes nothing.
use mathlib.Core.Path.{◌∙◌}
use native.Mathlib.Omega.{arith}
use Rattle.singles.proofs.Passed.{all_read}
use Rattle.utf8.proofs.is_text.Goals as goal

pub returns-then-i-s : goal.returns-then-i-s
returns-then-i-s c = all_read c.after_singles-i.ensures (omega arith)

pub returns : goal.returns
returns c = c.is_rest.ensures ∙ c.after_singles-i.ensures.same
