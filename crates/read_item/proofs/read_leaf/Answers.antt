-- `read_item::read_leaf` meets its contract, by the leaf's own item.
-- Assumes nothing.
use mathlib.Core.Path.{ap, ◌∙◌}
use Rattle.wire.specs.Reading.{judged}
use Rattle.read_item.proofs.Heads.{leaf-ends}
use Rattle.read_item.proofs.read_leaf.Goals as goal

pub lay-requires : goal.lay-requires
lay-requires c = let p = c.requires in record { ends = leaf-ends _ _ _ _ _ p.part_bound (c.judge-got.ensures ∙ ap (judged _) c.take.ensures); made_bound = p.made_bound }

pub returns : goal.returns
returns c = rw (c.judge-got.ensures ∙ ap (judged _) c.take.ensures) at c.lay.ensures
