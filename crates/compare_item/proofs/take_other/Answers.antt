-- `compare_item::take_other` meets its contract: a side is refused, or both are taken.
-- Assumes nothing.
use mathlib.Core.Path.{sym, ◌∙◌}
use Rattle.compare_item.proofs.Leaves.{both-taken, first-unread, second-unread, leaf-head, whole-leaf}
use Rattle.compare_item.proofs.take_other.Goals as goal

pub returns-in_default : goal.returns-in_default
returns-in_default c = let p = c.requires in first-unread _ _ _ _ (sym (c.take-got.ensures ∙ leaf-head _ _ _ p.leaf p.part_bound) ∙ c.in_default.is)

pub returns-in_default-beside : goal.returns-in_default-beside
returns-in_default-beside c = let p = c.requires in
    second-unread _ _ _ (sym (c.take-got.ensures ∙ leaf-head _ _ _ p.leaf p.part_bound) ∙ c.in-Ok.is) (sym (c.take-beside.ensures ∙ leaf-head _ _ _ p.leaf p.other_bound) ∙ c.in_default-beside.is)

pub same_leaf-same-requires : goal.same_leaf-same-requires
same_leaf-same-requires c = let p = c.requires in record { whole = whole-leaf _ _ _ _ (sym (c.take-got.ensures ∙ leaf-head _ _ _ p.leaf p.part_bound) ∙ c.in-Ok.is); whole_2 = whole-leaf _ _ _ _ (sym (c.take-beside.ensures ∙ leaf-head _ _ _ p.leaf p.other_bound) ∙ c.in-Ok-beside.is) }

pub returns : goal.returns
returns c = let p = c.requires in
    both-taken _ _ _ (sym (c.take-got.ensures ∙ leaf-head _ _ _ p.leaf p.part_bound) ∙ c.in-Ok.is) (sym (c.take-beside.ensures ∙ leaf-head _ _ _ p.leaf p.other_bound) ∙ c.in-Ok-beside.is) c.same_leaf-same.ensures
