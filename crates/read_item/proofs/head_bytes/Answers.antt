-- `read_item::head_bytes` meets its contract, by the numbers of the match.
-- Assumes nothing.
use mathlib.Core.Path.{ap, ◌∙◌}
use native.Mathlib.Omega.{arith}
use Rattle.wire.specs.Shape.{w64}
use Rattle.wire.specs.Numbers.{most, last}
use Rattle.wire.specs.Reading.{known}
use Rattle.varint.proofs.Reading.{at_width}
use Rattle.read_item.proofs.Heads.{head-option, head-count, head-struct, head-enum}
use Rattle.read_item.proofs.head_bytes.Goals as goal

pub returns-in-15 : goal.returns-in-15
returns-in-15 c = c.take_flag.ensures ∙ head-option _ _ _ _ c.in-15.is

pub returns-in-18 : goal.returns-in-18
returns-in-18 c = head-struct _ _ _ _ c.in-18.is

pub returns-in-19 : goal.returns-in-19
returns-in-19 c = c.known.ensures ∙ ap (known _) c.take_u32.ensures ∙ head-enum _ _ _ _ c.in-19.is

pub returns-in_default : goal.returns-in_default
unfolding most last
returns-in_default c = c.take.ensures ∙ at_width w64 _ ∙ head-count _ _ _ _ (omega arith) (omega arith)
