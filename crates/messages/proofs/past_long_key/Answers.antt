-- `messages::past_long_key` meets its contract: it is what `take_word` takes.
-- Assumes nothing.
use mathlib.Core.Path.{sym, ◌∙◌}
use native.Mathlib.Omega.{arith}
use Rattle.messages.specs.Past.{none}
use Rattle.messages.proofs.Past.{in-more, more-inside}
use Rattle.messages.proofs.past_long_key.Goals as goal

pub overflow_add-result : goal.overflow_add-result
overflow_add-result c = omega (arith, more-inside c.args.narrow c.args.part.now c.args.at c.requires (sym c.take_word.ensures ∙ c.in-Ok.is))

pub returns-in_default : goal.returns-in_default
returns-in_default c = none

pub returns : goal.returns
returns c = in-more _ _ _ c.requires (sym c.take_word.ensures ∙ c.in-Ok.is)
